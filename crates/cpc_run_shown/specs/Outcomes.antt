-- How a run is over, as the definitions have it.
use Rattle.cpc_tree.specs.Erase.{Names}
use Rattle.cpc_tree.specs.Trace as T
use Rattle.cpc_meaning.specs.Start.{before_underscores}
use Rattle.cpc_run_shown.specs.declared.outcome.Outcome.{Outcome}
use Rattle.cpc_run_shown.specs.declared.outcome.Outcome.TheVariants as O

-- how a run is over
abbrev pub outcome_of : Names → Outcome → T.Outcome
outcome_of names (O.Ended n) = T.Ended n
outcome_of names (O.Exited z) = T.Exited z
outcome_of names (O.Failed fault f) = T.Failed fault (before_underscores (names f))
outcome_of names O.HistoryEnded = T.HistoryEnded
outcome_of names (O.BadHistory section) = T.BadHistory section
