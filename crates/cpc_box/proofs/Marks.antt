-- The marks of a function's variables.
use Rattle.std.proofs.Common.{◌≡◌, ℕ, zero, suc, Bool, true, List, [], ◌∷◌, ◌++◌, length, slice_get, Some, refl, sym, ap, ◌∙◌, append_assoc, length-append, arith}
use Rattle.cpc_tree.specs.Erase.{Names}
use Rattle.cpc_tree.specs.Syntax as S
use Rattle.cpc_tree.specs.Registers.{is_register}
use Rattle.cpc_eval_locals.specs.declared.variables.Variable as V
use Rattle.cpc_eval_locals.specs.Kept.{kept_by}
use Rattle.cpc_eval_variables.specs.Kept.{kept_from}
use Rattle.cpc_forms_code.specs.Points.{Marked, marked_from}
use Rattle.cpc_box.specs.Walked.{marked_by, mark_of}

get_middle : (xs ys : List V.Variable) (n : ℕ) (v : V.Variable) → n ≡ length xs → slice_get (xs ++ v ∷ ys) n ≡ Some v
get_middle [] ys zero v e = refl
get_middle [] ys (suc n) v e = absurd (let h : suc n ≡ 0 = e in omega arith)
get_middle (x ∷ xs) ys zero v e = absurd (let h : 0 ≡ length (x ∷ xs) = e in omega arith)
get_middle (x ∷ xs) ys (suc n) v e = get_middle xs ys n v (let h : suc n ≡ length (x ∷ xs) = e in omega arith)

abbrev mark : S.Variable → Bool → Marked
mark x r = record { called = x; register = r }

abbrev register_of : List (S.Ty × Bool) → Bool
register_of [] = true
register_of (x ∷ xs) = x.1

tail_of : (x y : S.Ty × Bool) (xs ys : List (S.Ty × Bool)) → x ∷ xs ≡ y ∷ ys → xs ≡ ys
tail_of x y xs ys e = cc

longer : (done : List V.Variable) (n : ℕ) (v : V.Variable) → n ≡ length done → suc n ≡ length (done ++ v ∷ [])
longer done n v c = let h = length-append done (v ∷ []) in let i : length (v ∷ []) ≡ 1 = refl in omega arith

module _ (names : Names) (f : S.Function) where
  -- variables from the n-th on have the marks that were kept of them
  same : (done ms all : List V.Variable) (n : ℕ) (xs : List S.Variable) → all ≡ done ++ ms → n ≡ length done → kept_by names ms ≡ kept_from f n xs → marked_by all n xs ≡ marked_from f n xs
  same done ms all n [] e c k = refl
  same done [] all n (x ∷ xs) e c k = absurd cc
  same done (v ∷ ms) all n (x ∷ xs) e c k =
      let at : slice_get all n ≡ Some v = ap (λ l. slice_get l n) e ∙ get_middle done ms n v c in
      let head : v.is_register ≡ is_register f n x = (let g : register_of (kept_by names (v ∷ ms)) ≡ register_of (kept_from f n (x ∷ xs)) = ap register_of k in g) in
      let tail : kept_by names ms ≡ kept_from f (suc n) xs = tail_of _ _ _ _ k in
      ap (λ b. mark x b ∷ marked_by all (suc n) xs) (ap mark_of at ∙ head)
      ∙ ap (λ l. mark x (is_register f n x) ∷ l) (same (done ++ v ∷ []) ms all (suc n) xs (e ∙ sym (append_assoc done (v ∷ []) ms)) (let j : suc n ≡ length (done ++ v ∷ []) = longer done n v c in j) tail)

  pub marks_same : (ms : List V.Variable) (xs : List S.Variable) → kept_by names ms ≡ kept_from f 0 xs → marked_by ms 0 xs ≡ marked_from f 0 xs
  marks_same ms xs k = same [] ms ms 0 xs refl refl k
