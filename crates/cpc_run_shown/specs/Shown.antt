-- What goes out of a run: the bytes that it outputs, or the lines of its trace.
use Rattle.std.specs.Prelude.{Bool, true, false, Option, Some, None, List, [], ◌∷◌, ◌++◌}
use Rattle.cpc_base.specs.Bytes.{Text}
use Rattle.cpc_tree.specs.Erase.{Names}
use Rattle.cpc_tree.specs.Texts.{Stop, Over, AtSteps, AtCells, mark_text, last_text, trace_text, output, output_of}
use Rattle.cpc_tree.specs.Trace.{Mark}
use Rattle.cpc_run_shown.specs.declared.outcome.Ended.{Ended}
use Rattle.cpc_run_shown.specs.declared.outcome.Ended.TheVariants as E
use Rattle.cpc_run_shown.specs.Outcomes.{outcome_of}

-- the lines of these marks
abbrev pub lines_of : List Mark → Text
lines_of [] = []
lines_of (m ∷ ms) = mark_text m ++ 10 ∷ lines_of ms

-- what goes out for these marks: their lines where a trace is wanted, and else the bytes that they output
abbrev pub shown : (trace : Bool) → List Mark → Text
shown true ms = lines_of ms
shown false ms = output ms

-- what goes out for one
abbrev pub shown_of : (trace : Bool) → Mark → Text
shown_of true m = mark_text m ++ 10 ∷ []
shown_of false m = output_of m

-- why a run was left, as a trace tells it; nothing where the sink failed, memory was wanting, or a function of the host is missing
abbrev pub stop_of : Names → Ended → Option Stop
stop_of names (E.Over outcome) = Some (Over (outcome_of names outcome))
stop_of names E.Steps = Some AtSteps
stop_of names (E.Full cells) = Some AtCells
stop_of names E.WriteFault = None
stop_of names E.Memory = None
stop_of names (E.NoHost x) = None

-- the lines of these marks with the last line, where there is one
abbrev pub traced : Option Stop → List Mark → Text
traced None ms = lines_of ms
traced (Some stop) ms = trace_text ms stop

-- all that goes out of a run that has these marks and was left so
abbrev pub all_shown : Names → (trace : Bool) → Ended → List Mark → Text
all_shown names true ended ms = traced (stop_of names ended) ms
all_shown names false ended ms = output ms

-- a last line, where there is one
abbrev pub last_line : Option Stop → Text
last_line None = []
last_line (Some stop) = last_text stop ++ 10 ∷ []

-- what goes out behind the marks of a run that was left so
abbrev pub last_of : Names → (trace : Bool) → Ended → Text
last_of names true ended = last_line (stop_of names ended)
last_of names false ended = []
