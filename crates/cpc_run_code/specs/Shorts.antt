-- Cells above a cap.
use Rattle.std.specs.Prelude.{◌≡◌, ◌≢◌, ℕ, ◌<◌, ◌-◌, ◌^◌}
use Rattle.cpc_run_code.specs.declared.short.Short.{Short}
use Rattle.cpc_run_code.specs.declared.short.Short.TheVariants as W

-- so many cells are above the cap, and told, where the number is known; want of memory stands for the number that is not
abbrev pub IsAbove : (cap cells : ℕ) → Short → Type 0
IsAbove cap cells W.Memory = (cap < cells) × (cells ≡ 2 ^ 64 - 1)
IsAbove cap cells (W.Beyond told) = (told ≡ cells) × (cap < cells) × (cells ≢ 2 ^ 64 - 1)
