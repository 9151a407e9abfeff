-- What lifting gives of every program, as statements: nothing is asked of it.
use Rattle.std.specs.Prelude.{ℕ, Bool}
use Rattle.cpc_base.specs.Bytes.{Text}
use Rattle.cpc_tree.specs.Syntax.{Program}
use Rattle.cpc_tree.specs.Trace.{Mark, Outcome, is_over}
use Rattle.cpc_meaning_matching.specs.Simulation.{one, Follows}
use Rattle.cpc_meaning_matching.specs.Systems.{System, run, Ends}
use Rattle.cpc_meaning.specs.History.{History}
use Rattle.cpc_meaning.specs.Machine.{State}
use Rattle.cpc_meaning.specs.Matching.{thread_system}
use Rattle.cpc_meaning.specs.Threads.{Thread}
use Rattle.cpc_meaning.specs.Trees.{trees}
use Rattle.cpc_forms.specs.Split.{Position, split_form}
use Rattle.cpc_lift_laws.specs.Boxes.{is_box}
use Rattle.cpc_lift_laws.specs.Closed.{Closed}
use Rattle.cpc_lift_laws.specs.Laws.{SameBesides}
use Rattle.cpc_lift_laws.specs.Lift.{kept_in, IsSplit}
use Rattle.cpc_lift_laws.specs.Lifted.{lifted_system, TidyRunning}
use Rattle.cpc_lift_laws.specs.Standing.{StateStands}
use Rattle.cpc_convert_routines.specs.ClosureLaws.{lifting}

-- what a position of a program keeps: the closure of its owner in a cps function, and all in others
abbrev pub kept_of : Program → Text → Position → ℕ → Bool
kept_of p = kept_in (split_form p) (lifting p)

-- the lifted machine of a program
abbrev pub lifted_threads : Program → History → System (State Position (Thread Position)) Mark Outcome
lifted_threads p = lifted_system (kept_of p) (split_form p)

-- its state after so many steps
abbrev pub lifted_after : Program → History → ℕ → State Position (Thread Position)
lifted_after p h n = run (lifted_threads p h) n

-- the nodes of each cps function, with their owners, are where its code stands, and names in scope there mean its variables
abbrev pub ProgramsAreSplit : Type 0
ProgramsAreSplit = (p : Program) → IsSplit (split_form p) (lifting p)

-- what each position keeps is enough
abbrev pub ProgramsAreClosed : Type 0
ProgramsAreClosed = (p : Program) → Closed (split_form p) (is_box p) (lifting p).there (kept_of p)

-- the lifted machine matches the threads of the program as it is written, and those of its split graphs, one step for one step
pub record LiftedFollows (p : Program) : Type 0 where
  pub text : Follows is_over (thread_system (trees p)) (lifted_threads p) one one
  pub graphs : Follows is_over (thread_system (split_form p)) (lifted_threads p) one one

abbrev pub ThreadsFollow : Type 0
ThreadsFollow = (p : Program) → LiftedFollows p

-- what is known of its runs: one that is over has no step, all frames stand where code may stand, with boxes where they are marked, what is
-- not kept is unset in the frames that run, and nothing but slots differs from the threads over split graphs
pub record LiftedRuns (p : Program) (h : History) : Type 0 where
  pub ends : Ends is_over (lifted_threads p h)
  pub stands : (n : ℕ) → StateStands (split_form p) (is_box p) (lifting p).there (kept_of p) (lifted_after p h n)
  pub tidy : (n : ℕ) → TidyRunning (kept_of p) (lifted_after p h n).running
  pub same : (n : ℕ) → SameBesides (run (thread_system (split_form p) h) n) (lifted_after p h n)

abbrev pub LiftedRunsAreKnown : Type 0
LiftedRunsAreKnown = (p : Program) (h : History) → LiftedRuns p h
