-- The names that an end tells.
use Rattle.std.specs.Prelude.{◌<◌, length}
use Rattle.cpc_tree.specs.Erase.{Table}
use Rattle.cpc_run_shown.specs.declared.outcome.Ended.{Ended}
use Rattle.cpc_run_shown.specs.declared.outcome.Ended.TheVariants as E
use Rattle.cpc_run_shown.specs.declared.outcome.Outcome.TheVariants as O

-- a name that an end tells is in the table; and that the sink failed is no end that is due
abbrev pub IsInTable : Table → Ended → Type 0
IsInTable table (E.Over (O.Failed fault f)) = f.0 < length table
IsInTable table E.WriteFault = ⊥
IsInTable table e = Unit {0}
