-- Numbers, and the jobs that have them.
use Rattle.std.proofs.Common.{◌≡◌, ℕ, suc, ◌<◌, true, false, cond, List, [], ◌∷◌, ◌++◌, Some, inl, inr, ◌⊎◌, refl, sym, ap, ◌∙◌, arith}
use Rattle.std.specs.Prelude.{◌==◌, ◌||◌, not}
use Rattle.std.specs.List.{AllByRecursion}
use Rattle.std.proofs.lemmas.Bool.Decides.{nat_tests}
use Rattle.cpc_base.specs.Waiting.{without}
use Rattle.cpc_base.proofs.Truth.{true_or_false}
use Rattle.cpc_tree.specs.Lists.{holds_number}
use Rattle.cpc_meaning.specs.Copies.{job_numbered}
use Rattle.cpc_meaning.specs.Section.{Job}

-- ---- the numbers that are out

-- of those behind which one was put, each is one of the others or that one
pub put_out : (out : List ℕ) (n m : ℕ) → (m == n) ≡ false → holds_number (out ++ m ∷ []) n ≡ true → holds_number out n ≡ true
put_out [] n m other h = absurd (let g : false ≡ true = sym (ap (λ b. b || false) other) ∙ h in cc)
put_out (k ∷ out) n m other h = elim (true_or_false (k == n)) [
  | inl t ↦ ap (λ b. b || holds_number out n) t
  | inr f ↦ (
      let g : holds_number (out ++ m ∷ []) n ≡ true = sym (ap (λ b. b || holds_number (out ++ m ∷ []) n) f) ∙ h in
      ap (λ b. b || holds_number out n) f ∙ put_out out n m other g
      )
]

-- what is left without a number is out, and is not that one
pub left_is_out : (out : List ℕ) (n m : ℕ) → holds_number (without (λ k. k == m) out) n ≡ true → holds_number out n ≡ true
left_is_out [] n m h = h
left_is_out (k ∷ out) n m h = elim (true_or_false (k == n)) [
  | inl t ↦ ap (λ b. b || holds_number out n) t
  | inr f ↦ ap (λ b. b || holds_number out n) f ∙ left_is_out out n m (kept f (true_or_false (k == m)))
]
  where
    kept : (k == n) ≡ false → ((k == m) ≡ true) ⊎ ((k == m) ≡ false) → holds_number (without (λ j. j == m) out) n ≡ true
    kept f (inl t) = sym (ap (λ b. holds_number (cond (not b) (k ∷ without (λ j. j == m) out) (without (λ j. j == m) out)) n) t) ∙ h
    kept f (inr e) = sym (ap (λ b. b || holds_number (without (λ j. j == m) out) n) f) ∙ sym (ap (λ b. holds_number (cond (not b) (k ∷ without (λ j. j == m) out) (without (λ j. j == m) out)) n) e) ∙ h

-- what is not out behind which one was put is none of the others, and not that one
pub put_not_out : (out : List ℕ) (n m : ℕ) → holds_number (out ++ m ∷ []) n ≡ false → (holds_number out n ≡ false) × ((m == n) ≡ false)
put_not_out [] n m h = elim (true_or_false (m == n)) [
  | inl t ↦ absurd (let g : true ≡ false = sym (ap (λ b. b || false) t) ∙ h in cc)
  | inr f ↦ (refl, f)
]
put_not_out (k ∷ out) n m h = elim (true_or_false (k == n)) [
  | inl t ↦ absurd (let g : true ≡ false = sym (ap (λ b. b || holds_number (out ++ m ∷ []) n) t) ∙ h in cc)
  | inr f ↦ (
      let g : holds_number (out ++ m ∷ []) n ≡ false = sym (ap (λ b. b || holds_number (out ++ m ∷ []) n) f) ∙ h in
      let both = put_not_out out n m g in
      (ap (λ b. b || holds_number out n) f ∙ both.0, both.1)
      )
]

-- another that is not left without a number is not out
left_not_out_first : (k : ℕ) (out : List ℕ) (n m : ℕ) → (k == m) ≡ false → (holds_number (without (λ j. j == m) out) n ≡ false → holds_number out n ≡ false)
    → holds_number (without (λ j. j == m) (k ∷ out)) n ≡ false → holds_number (k ∷ out) n ≡ false
left_not_out_first k out n m f rest h =
    let g : holds_number (k ∷ without (λ j. j == m) out) n ≡ false = sym (ap (λ b. holds_number (cond (not b) (k ∷ without (λ j. j == m) out) (without (λ j. j == m) out)) n) f) ∙ h in
    elim (true_or_false (k == n)) [
      | inl t ↦ absurd (let e : true ≡ false = sym (ap (λ b. b || holds_number (without (λ j. j == m) out) n) t) ∙ g in cc)
      | inr d ↦ ap (λ b. b || holds_number out n) d ∙ rest (sym (ap (λ b. b || holds_number (without (λ j. j == m) out) n) d) ∙ g)
    ]

pub left_not_out : (out : List ℕ) (n m : ℕ) → (n == m) ≡ false → holds_number (without (λ k. k == m) out) n ≡ false → holds_number out n ≡ false
left_not_out [] n m other h = h
left_not_out (k ∷ out) n m other h = elim (true_or_false (k == m)) [
  | inl t ↦ (
      let e : (k == n) ≡ false = grind (arith, nat_tests) in
      let g : holds_number (without (λ j. j == m) out) n ≡ false = sym (ap (λ b. holds_number (cond (not b) (k ∷ without (λ j. j == m) out) (without (λ j. j == m) out)) n) t) ∙ h in
      ap (λ b. b || holds_number out n) e ∙ left_not_out out n m other g
      )
  | inr f ↦ left_not_out_first k out n m f (left_not_out out n m other) h
]

-- without a number that is not out all are left
pub without_none : (out : List ℕ) (m : ℕ) → holds_number out m ≡ false → without (λ k. k == m) out ≡ out
without_none [] m h = refl
without_none (k ∷ out) m h = elim (true_or_false (k == m)) [
  | inl t ↦ absurd (let e : true ≡ false = sym (ap (λ b. b || holds_number out m) t) ∙ h in cc)
  | inr f ↦ (
      let g : holds_number out m ≡ false = sym (ap (λ b. b || holds_number out m) f) ∙ h in
      ap (λ b. cond (not b) (k ∷ without (λ j. j == m) out) (without (λ j. j == m) out)) f ∙ ap (λ ks. k ∷ ks) (without_none out m g)
      )
]

pub left_is_other : (out : List ℕ) (n m : ℕ) → (n == m) ≡ true → holds_number (without (λ k. k == m) out) n ≡ false
left_is_other [] n m e = refl
left_is_other (k ∷ out) n m e = elim (true_or_false (k == m)) [
  | inl t ↦ rw t (left_is_other out n m e)
  | inr f ↦ (let g : (k == n) ≡ false = grind (arith, nat_tests) in rw f (rw g (left_is_other out n m e)))
]

-- ---- jobs

-- one more job leaves each where it stands
pub numbered_before : (jobs : List Job) (x y : Job) (n : ℕ) → job_numbered jobs n ≡ Some x → job_numbered (jobs ++ y ∷ []) n ≡ Some x
numbered_before [] x y n h = absurd (cc)
numbered_before (j ∷ js) x y n h = elim (true_or_false (j.number == n)) [
  | inl t ↦ ap (λ b. cond b (Some j) (job_numbered (js ++ y ∷ []) n)) t ∙ sym (ap (λ b. cond b (Some j) (job_numbered js n)) t) ∙ h
  | inr f ↦ (
      let g : job_numbered js n ≡ Some x = sym (ap (λ b. cond b (Some j) (job_numbered js n)) f) ∙ h in
      ap (λ b. cond b (Some j) (job_numbered (js ++ y ∷ []) n)) f ∙ numbered_before js x y n g
      )
]

-- it stands behind them
pub numbered_last : (jobs : List Job) (y : Job) (made n : ℕ) → AllByRecursion (λ x. x.number < made) jobs → y.number ≡ made → (made == n) ≡ true → job_numbered (jobs ++ y ∷ []) n ≡ Some y
numbered_last [] y made n h e is = let g : (y.number == n) ≡ true = grind (arith, nat_tests) in rw g refl
numbered_last (j ∷ js) y made n h e is = let below = h.0 in let g : (j.number == n) ≡ false = grind (arith, nat_tests) in rw g (numbered_last js y made n h.1 e is)

pub below_next : (jobs : List Job) (y : Job) (made : ℕ) → AllByRecursion (λ x. x.number < made) jobs → y.number ≡ made → AllByRecursion (λ x. x.number < suc made) (jobs ++ y ∷ [])
below_next [] y made h e = (omega (arith, e), tt)
below_next (j ∷ js) y made h e = let below = h.0 in (omega (arith, below), below_next js y made h.1 e)
