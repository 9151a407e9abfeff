-- Rows from a relation that needs only hold of states of the source's run, of which more is known.
use Rattle.std.proofs.Common.{◌≡◌, ℕ, suc, ◌≤◌, ◌⊎◌, Bool, true, Some, refl, sym, ◌∙◌, ap, subst}
use Rattle.cpc_meaning_matching.specs.Steps.{or_stay}
use Rattle.cpc_meaning_matching.specs.Systems.{System, run, Alike, NotStuck, NeverStuck, Ends}
use Rattle.cpc_meaning_matching.specs.Simulation.{Matches, Path}
use Rattle.cpc_meaning_matching.proofs.Paths.{matches_of_paths, path_map}

module _ {S T M O : Type 0} {is_over : O → Bool} {A : System S M O} {B : System T M O} (ends_a : Ends is_over A) (ends_b : Ends is_over B) (live : NeverStuck is_over A) (wa : S → ℕ) (wb : T → ℕ) (Known : S → Type 0) (known : (n : ℕ) → Known (run A n)) (R : S → T → Type 0) (opens : R A.opening B.opening) (alike : (x : S) (y : T) → R x y → Alike A B x y) (rest : (x : S) (y : T) → is_over (A.outcome x) ≡ true → R x y → wb y ≤ wa x) (paths : (x x' : S) (y : T) → A.next x ≡ Some x' → NotStuck is_over A x' → Known x → Known x' → R x y → Path B.next wb (R x') (λ z. Alike A B x z ⊎ Alike A B x' z) (wa x) y) where
  -- a state of the run that is related
  abbrev Along : S → T → Type 0
  Along x y = ((n : ℕ) × (x ≡ run A n)) × R x y

  known_at : (x : S) → (n : ℕ) × (x ≡ run A n) → Known x
  known_at x w = subst Known (sym w.1) (known w.0)

  next_along : (x x' : S) → A.next x ≡ Some x' → (n : ℕ) × (x ≡ run A n) → (n : ℕ) × (x' ≡ run A n)
  next_along x x' e w = (suc w.0, sym (ap (or_stay x) e) ∙ ap (λ z. or_stay z (A.next z)) w.1)

  pub matches_along : Matches A B wa wb
  matches_along =
      matches_of_paths ends_a ends_b live wa wb Along ((0, refl), opens) (λ x y r. alike x y r.1) (λ x y o r. rest x y o r.1)
      (λ x x' y e stuck r.
      let w = next_along x x' e r.0 in
      path_map (λ t k. (w, k)) (λ t k. k) (paths x x' y e stuck (known_at x r.0) (known_at x' w) r.1))
