-- The passes of workers, by their numbers.
use Rattle.std.proofs.Common.{◌≡◌, ◌≢◌, ℕ, ◌<◌, Bool, true, false, cond, eqb, sym, refl, ap, ◌∙◌, ne_eqb, arith}
use mathlib.Core.Option.{Option, some, none, some-injective, some-ne-none}

module _ (seat : ℕ → Option ℕ) where
  -- two workers with different passes have different numbers
  pub apart : (k w q j : ℕ) → seat k ≡ some j → seat w ≡ some q → j ≢ q → w ≢ k
  apart k w q j at_k at_w other e = other (some-injective j q (sym at_k ∙ ap seat (sym e) ∙ at_w))

  pub gone : (k w q : ℕ) → seat k ≡ none → seat w ≡ some q → w ≢ k
  gone k w q at_k at_w e = some-ne-none q (sym at_w ∙ ap seat e ∙ at_k)

  -- a worker of before, when there is one more
  pub seat_old : (workers q k : ℕ) → k < workers → cond (eqb k workers) (some q) (seat k) ≡ seat k
  seat_old workers q k lt = ap (λ (b : Bool). cond b (some q) (seat k)) (ne_eqb k workers (λ e. omega arith))

-- one that has none, when there is one less
pub stays_gone : (b : Bool) (o : Option ℕ) → o ≡ none → cond b none o ≡ none
stays_gone true o e = refl
stays_gone false o e = e
