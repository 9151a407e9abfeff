-- The polls that an end counts.
use Rattle.std.specs.Prelude.{◌≡◌, ℕ, suc}
use Rattle.cpc_cli.specs.declared.answer.Outcome.{Outcome}
use Rattle.cpc_cli.specs.declared.answer.Outcome.TheVariants.{HistoryEnded, BadHistory}

-- an end that tells of polls counts these, which were taken
abbrev pub IsCounted : (taken : ℕ) → Outcome → Type 0
IsCounted taken (HistoryEnded n) = n ≡ taken
IsCounted taken (BadHistory poll section) = poll ≡ suc taken
IsCounted taken _ = Unit {0}
