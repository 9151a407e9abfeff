-- Steps and the cap on live cells: those that are not made, since they would leave more, and those that are.
use Rattle.std.specs.Prelude.{◌≡◌, ℕ, ◌<◌, ◌-◌, Option, Some, None}
use Rattle.cpc_meaning.specs.Runs.{live_cells}
use Rattle.cpc_run_code.specs.declared.short.Short.{Short}
use Rattle.cpc_run_code.specs.declared.short.Short.TheVariants as W
use Rattle.cpc_run.specs.States.{States}

-- what holds of the live cells of the next state; where no rule fits nothing is said
abbrev pub Counts : (ℕ → Type 0) → Option States → Type 0
Counts P None = Unit {0}
Counts P (Some t) = P (live_cells t)

-- they are told, and more than the cap; nothing is said of want of memory
abbrev pub IsBeyond : (cap : ℕ) → Short → (cells : ℕ) → Type 0
IsBeyond cap W.Memory cells = Unit {0}
IsBeyond cap (W.Beyond told) cells = (told ≡ cells) × (cap < told)
