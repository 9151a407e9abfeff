-- Which of the sections of these numbers are out.
use Rattle.std.proofs.Common.{◌≡◌, ℕ, true, false, cond, List, [], ◌∷◌, None, Some, inl, inr, refl, sym, ap, ◌∙◌}
use Rattle.std.specs.Prelude.{◌==◌}
use Rattle.cpc_base.specs.Waiting.{without}
use Rattle.cpc_base.proofs.Truth.{true_or_false}
use Rattle.cpc_tree.specs.Lists.{holds_number}
use Rattle.cpc_meaning.specs.Agenda.{not_out}
use Rattle.cpc_run_jobs.specs.Held.{are_out}
use Rattle.cpc_run_jobs.proofs.Numbered.{without_none}

-- where the first of these is out, or is not
pub first_out : (n : ℕ) (ns out : List ℕ) → holds_number out n ≡ true → are_out (n ∷ ns) out ≡ n ∷ are_out ns (without (λ m. m == n) out)
first_out n ns out t = ap (λ b. cond b (n ∷ are_out ns (without (λ m. m == n) out)) (are_out ns out)) t

pub first_not_out : (n : ℕ) (ns out : List ℕ) → holds_number out n ≡ false → are_out (n ∷ ns) out ≡ are_out ns (without (λ m. m == n) out)
first_not_out n ns out f = ap (λ b. cond b (n ∷ are_out ns (without (λ m. m == n) out)) (are_out ns out)) f ∙ ap (are_out ns) (sym (without_none out n f))

-- where all of these are out, they are all that are
pub all_are_out : (ns out : List ℕ) → not_out ns out ≡ None → are_out ns out ≡ ns
all_are_out [] out h = refl
all_are_out (n ∷ ns) out h = elim (true_or_false (holds_number out n)) [
  | inl t ↦ (
      let g : not_out ns (without (λ m. m == n) out) ≡ None = sym (ap (λ b. cond b (not_out ns (without (λ m. m == n) out)) (Some n)) t) ∙ h in
      first_out n ns out t ∙ ap (λ ms. n ∷ ms) (all_are_out ns (without (λ m. m == n) out) g)
      )
  | inr f ↦ absurd (let g : Some n ≡ None = sym (ap (λ b. cond b (not_out ns (without (λ m. m == n) out)) (Some n)) f) ∙ h in cc)
]
