-- Counts of cells as a u64 has them, one added to another.
use Rattle.std.proofs.Common.{◌≡◌, ℕ, ◌+◌, ◌^◌, ◌-◌, min, Option, Some, None, option_map, refl, ap, sym, ◌∙◌, arith}
use Rattle.cpc_base.specs.Counts.{capped}
use Rattle.cpc_tree.specs.Typing.{◌>>=◌}

-- a sum with a capped number, capped
pub sum_capped : (a n : ℕ) → capped (capped a + n) ≡ capped (a + n)
sum_capped a n = omega arith

-- a count that is there is added, and what is left is behind it
pub present_step : (o r : Option ℕ) (total c : ℕ) → Some c ≡ option_map capped o
    → option_map (λ n. capped (total + n)) (o >>= (λ (m : ℕ). r >>= (λ (n : ℕ). Some (m + n)))) ≡ option_map (λ n. capped (capped (total + c) + n)) r
present_step None r total c e = cc
present_step (Some m) None total c e = refl
present_step (Some m) (Some n) total c e =
    let f : c ≡ capped m = cc in
    let g : capped (total + (m + n)) ≡ capped (capped (total + capped m) + n) = omega arith in
    ap Some (g ∙ ap (λ x. capped (capped (total + x) + n)) (sym f))

-- one that is not there leaves none
pub absent_step : (o r : Option ℕ) (total : ℕ) → None ≡ option_map capped o → option_map (λ n. capped (total + n)) (o >>= (λ (m : ℕ). r >>= (λ (n : ℕ). Some (m + n)))) ≡ None
absent_step None r total e = refl
absent_step (Some m) r total e = cc
