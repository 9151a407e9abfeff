-- What the code's polls, marks and outcomes stand for.
use Rattle.cpc_tree.specs.Trace as T
use Rattle.cpc_history_marks.specs.declared.marks.Told.{Told}
use Rattle.cpc_history_marks.specs.declared.marks.Mark.{Mark}
use Rattle.cpc_history_marks.specs.declared.marks.Mark.TheVariants.{Out, Host, Sleep, Wait, Io, Section, Poll}
use Rattle.cpc_history_marks.specs.declared.marks.Outcome.{Outcome}
use Rattle.cpc_history_marks.specs.declared.marks.Outcome.TheVariants.{Going, Ended, Exit, Fault, HistoryEnded, BadHistory}

-- a poll
abbrev pub told_of : Told → T.Told
told_of told = record { clock = told.clock; events = told.events.items }

-- what a step shows
abbrev pub mark_of : Mark → T.Mark
mark_of (Out bytes) = T.Output bytes.items
mark_of (Host name arguments answer) = T.HostCall name.items arguments.items answer
mark_of (Sleep length) = T.Sleeping length
mark_of (Wait condition) = T.Waiting condition
mark_of (Io descriptor way) = T.Awaiting descriptor way
mark_of (Section number name) = T.Submitted number name.items
mark_of (Poll told) = T.Polled (told_of told)

-- how a run stands
abbrev pub outcome_of : Outcome → T.Outcome
outcome_of Going = T.Going
outcome_of (Ended waiters) = T.Ended waiters
outcome_of (Exit status) = T.Exited status
outcome_of (Fault fault function) = T.Failed fault function.items
outcome_of HistoryEnded = T.HistoryEnded
outcome_of (BadHistory section) = T.BadHistory section
