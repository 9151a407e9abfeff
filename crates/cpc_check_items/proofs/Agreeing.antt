-- Types that are one are equal, and what follows for rows of parameters and for signatures.
use Rattle.std.proofs.Common.{◌≡◌, suc, true, false, ◌&&◌, List, [], ◌∷◌, length, refl, ap, ◌∙◌}
use Rattle.cpc_base.proofs.Truth.{and_first, and_second, and_with_false}
use Rattle.cpc_tree.specs.declared.program.Mode.{Mode}
use Rattle.cpc_tree.specs.declared.program.Parameter.{Parameter}
use Rattle.cpc_tree.specs.Syntax.{Ty}
use Rattle.cpc_tree.specs.Typing as T
use Rattle.cpc_tree.specs.Erase.{Names, type_of}
use Rattle.cpc_check_rules.specs.ItemRules as R
use Rattle.cpc_check_rules.proofs.Sameness.{type_is, list_is, mode_is}
use Rattle.cpc_check_items.specs.Signatures.{types_of}

-- A declaration that agrees with another agrees with the same ones as it.
pub agrees_alike : (m n o : Mode) (r q s : Ty) (ps qs ss : List Ty) → (R.same_mode m n && (T.same_type r q && R.same_list ps qs)) ≡ true
    → (R.same_mode m o && (T.same_type r s && R.same_list ps ss)) ≡ (R.same_mode n o && (T.same_type q s && R.same_list qs ss))
agrees_alike m n o r q s ps qs ss e =
    let rest = and_second (R.same_mode m n) (T.same_type r q && R.same_list ps qs) e in
    ap (λ x. R.same_mode x o && (T.same_type r s && R.same_list ps ss)) (mode_is m n (and_first (R.same_mode m n) (T.same_type r q && R.same_list ps qs) e))
    ∙ ap (λ x. R.same_mode n o && (T.same_type x s && R.same_list ps ss)) (type_is r q (and_first (T.same_type r q) (R.same_list ps qs) rest))
    ∙ ap (λ x. R.same_mode n o && (T.same_type q s && R.same_list x ss)) (list_is ps qs (and_second (T.same_type r q) (R.same_list ps qs) rest))

-- ---- rows of parameters

-- rows of two lengths differ
pub lengths_differ : (names : Names) (xs ys : List Parameter) → (length xs ≡ length ys → ⊥) → R.same_list (types_of names xs) (types_of names ys) ≡ false
lengths_differ names [] [] f = absurd (f refl)
lengths_differ names [] (y ∷ ys) f = refl
lengths_differ names (x ∷ xs) [] f = refl
lengths_differ names (x ∷ xs) (y ∷ ys) f =
    let h : R.same_list (types_of names xs) (types_of names ys) ≡ false = lengths_differ names xs ys (λ e. f (ap suc e)) in
    rw h (and_with_false (T.same_type (type_of names x.of) (type_of names y.of)))
