-- What lifting promises, as statements.
use Rattle.std.specs.Prelude.{◌≡◌, ℕ, Bool, is_some}
use Rattle.cpc_base.specs.Bytes.{Text}
use Rattle.cpc_tree.specs.Syntax.{Program}
use Rattle.cpc_tree.specs.Trace.{is_over}
use Rattle.cpc_meaning_matching.specs.Simulation.{one, Follows}
use Rattle.cpc_meaning_matching.specs.Systems.{run, Ends}
use Rattle.cpc_meaning.specs.Plain.{Form}
use Rattle.cpc_meaning.specs.History.{History}
use Rattle.cpc_meaning.specs.Machine.{State}
use Rattle.cpc_meaning.specs.Threads.{Thread}
use Rattle.cpc_meaning.specs.Matching.{thread_system}
use Rattle.cpc_lift_laws.specs.Boxes.{Marks, is_box}
use Rattle.cpc_lift_laws.specs.Closed.{Closed}
use Rattle.cpc_lift_laws.specs.Lifted.{lifted_system, TidyRunning}

-- what is not kept is not missed: where enough is kept, the lifted machine matches the threads, one step for one step
abbrev pub LiftingFollows : (P : Type 0) → Type 0
LiftingFollows P =
    (p : Form P) (box : Text → ℕ → Bool) (there : Text → P → Bool) (kept : Text → P → ℕ → Bool)
    → Marks p.program box → Closed p box there kept → Follows is_over (thread_system p) (lifted_system kept p) one one

-- in each state of the lifted run, what is not kept is unset
abbrev pub LiftedIsTidy : (P : Type 0) → Type 0
LiftedIsTidy P = (p : Form P) (kept : Text → P → ℕ → Bool) (h : History) (n : ℕ) → TidyRunning kept (run (lifted_system kept p h) n).running

-- nothing but slots and waiting stacks differs: the store, the jobs, the history that is left, the trace, the outcome, and whether a stack runs
pub record SameBesides {P : Type 0} (s t : State P (Thread P)) : Type 0 where
  pub store : s.store ≡ t.store
  pub jobs : s.jobs ≡ t.jobs
  pub history : s.history ≡ t.history
  pub trace : s.trace ≡ t.trace
  pub outcome : s.outcome ≡ t.outcome
  pub runs : is_some s.running ≡ is_some t.running

-- so it is after as many steps of the threads and of the lifted machine
abbrev pub LiftedIsSame : (P : Type 0) → Type 0
LiftedIsSame P =
    (p : Form P) (box : Text → ℕ → Bool) (there : Text → P → Bool) (kept : Text → P → ℕ → Bool)
    → Marks p.program box → Closed p box there kept → (h : History) (n : ℕ) → SameBesides (run (thread_system p h) n) (run (lifted_system kept p h) n)

-- a lifted run that is over has no step
abbrev pub LiftedEnds : (P : Type 0) → Type 0
LiftedEnds P = (p : Form P) (kept : Text → P → ℕ → Bool) (h : History) → Ends is_over (lifted_system kept p h)

-- a program has marks
abbrev pub ProgramsHaveMarks : Type 0
ProgramsHaveMarks = (p : Program) → Marks p (is_box p)
