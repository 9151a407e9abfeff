-- How the worked programs are told: the history's text, the output or the trace text, and the outcome.
use Rattle.std.specs.Prelude.{◌≡◌, ℕ, ℤ, List, []}
use Rattle.cpc_base.specs.Bytes.{Text}
use Rattle.cpc_base.specs.declared.poll.Event.{Event}
use Rattle.cpc_tree.specs.Syntax.{Program}
use Rattle.cpc_tree.specs.Trace.{Told, Outcome}
use Rattle.cpc_tree.specs.Texts.{Over, trace_text, output, HistoryRead, Polls, BadLine, read_history}
use Rattle.cpc_meaning.specs.History.{History}
use Rattle.cpc_meaning.specs.Threads.{threaded}
use Rattle.cpc_meaning.specs.Events.{event}

-- the polls of a text without a bad line
abbrev pub polls_of : HistoryRead → List Told
polls_of (Polls polls) = polls
polls_of (BadLine n fault) = []

-- the history of a file, with 1,000 as the bound on the steps of a section
abbrev pub polls : Text → History
polls text = record { polls = polls_of (read_history text); answers = []; section_bound = 1000 }

-- nothing comes from outside
abbrev pub no_polls : History
no_polls = polls []

-- the hosts give these answers
abbrev pub answers : List ℤ → History
answers zs = record no_polls { answers = zs }

-- after so many steps the threads of the program have made this output, and have this outcome
pub record RunsTo (p : Program) (h : History) (steps : ℕ) (out : Text) (o : Outcome) : Type 0 where
  pub output : output (threaded p h steps).trace ≡ out
  pub outcome : (threaded p h steps).outcome ≡ o

-- and so have the callbacks of an event program
pub record EventRunsTo (p : Program) (h : History) (steps : ℕ) (out : Text) (o : Outcome) : Type 0 where
  pub output : output (event p h steps).trace ≡ out
  pub outcome : (event p h steps).outcome ≡ o

-- after so many steps the threads' trace is told by this text, with its last line
abbrev pub Traces : Program → History → ℕ → Text → Type 0
Traces p h steps text = trace_text (threaded p h steps).trace (Over (threaded p h steps).outcome) ≡ text

-- the same of callbacks
abbrev pub EventTraces : Program → History → ℕ → Text → Type 0
EventTraces p h steps text = trace_text (event p h steps).trace (Over (event p h steps).outcome) ≡ text

-- a poll
abbrev pub told : ℕ → List Event → Told
told n es = record { clock = n; events = es }
