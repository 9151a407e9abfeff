-- Some steps of the event machine that leave no mark and do not end the run.
use Rattle.std.specs.Prelude.{◌≡◌, ℕ, zero, suc, ◌+◌, ◌≤◌, true, List, ◌∷◌, Option, Some, None, is_some}
use Rattle.cpc_base.specs.Bytes.{Text}
use Rattle.cpc_tree.specs.Syntax.{Stmt, Stmts, Program}
use Rattle.cpc_tree.specs.Points.{Nth, Point, Arrival, enter}
use Rattle.cpc_tree.specs.Points as P
use Rattle.cpc_tree.specs.Trace.{Mark, Going, Failed}
use Rattle.cpc_store.specs.Store.{Value, Store}
use Rattle.cpc_meaning.specs.Agenda.{Agenda}
use Rattle.cpc_meaning.specs.Eval.{Slot}
use Rattle.cpc_meaning.specs.Plain.{Frame, Stack}
use Rattle.cpc_meaning.specs.History.{History}
use Rattle.cpc_meaning.specs.Section.{Job}
use Rattle.cpc_meaning.specs.Machine.{State, next, ends}
use Rattle.cpc_meaning.specs.Runs.{live_cells}
use Rattle.cpc_meaning.specs.Start.{before_underscores}
use Rattle.cpc_num.specs.declared.kinds.Fault.{Fault}
use Rattle.cpc_convert_flat_laws.specs.Flat.{point_at}
use Rattle.cpc_meaning.specs.Events.{Callback, callbacks}

-- what a state has besides its store and what runs
pub record World : Type 0 where
  pub agenda : Agenda Callback
  pub jobs : List Job
  pub history : History
  pub trace : List Mark

-- a state of the event machine
abbrev pub Here : Type 0
Here = State Point Callback

-- these frames run, and this value is arriving at the first
abbrev pub running : World → Store → List (Frame Point) → (arriving : Option Value) → Here
running w s frames o = record {
  store = s;
  running = Some (record { frames = frames; arriving = o });
  agenda = w.agenda;
  jobs = w.jobs;
  history = w.history;
  trace = w.trace;
  outcome = Going;
}

-- nothing runs
abbrev pub idle : World → Store → Here
idle w s = record { store = s; running = None; agenda = w.agenda; jobs = w.jobs; history = w.history; trace = w.trace; outcome = Going }

-- a frame of a function
abbrev pub frame_at : Text → Point → List Slot → Frame Point
frame_at f point slots = record { function = f; point = point; slots = slots }

-- a function runs above these frames
abbrev pub in_function : World → Text → (below : List (Frame Point)) → Point → List Slot → Store → Here
in_function w f below point slots s = running w s (frame_at f point slots ∷ below) None

-- a function runs before these statements of its block, the first of which is the k-th one
abbrev pub at_line : World → Text → (below : List (Frame Point)) → ℕ → Stmts → List Slot → Store → Here
at_line w f below k left slots s = in_function w f below (point_at k left) slots s

-- the stack of a function before the k-th statement of its block, and its frame where a value arrives at that
abbrev pub line_stack : Text → (below : List (Frame Point)) → ℕ → Stmt → List Slot → Stack Point
line_stack f below k s slots = record { frames = frame_at f (P.Here (Nth k ∷ enter s)) slots ∷ below; arriving = None }

abbrev pub arriving_at : Text → ℕ → Stmt → List Slot → Frame Point
arriving_at f k s slots = frame_at f (Arrival (Nth k ∷ enter s)) slots

-- a state with this trace, which goes on, and in which something runs
pub record Quiet (trace : List Mark) (s : Here) : Type 0 where
  pub is_trace : s.trace ≡ trace
  pub goes : s.outcome ≡ Going
  pub runs : is_some s.running ≡ true

-- so many steps lead from a state to another, over quiet ones with at most so many live cells
pub data Climb (q : Program) (trace : List Mark) (most : ℕ) : ℕ → Here → Here → Type 0 where
  Rest : (s : Here) → Climb q trace most zero s s
  Go : (n : ℕ) (s t u : Here) → next (callbacks q) s ≡ Some t → Quiet trace t → live_cells t ≤ most → Climb q trace most n t u → Climb q trace most (suc n) s u

-- so many steps, over states with at most so many more live cells than the first has
pub record Rise (q : Program) (trace : List Mark) (n grown : ℕ) (s u : Here) : Type 0 where
  pub climb : (most : ℕ) → live_cells s + grown ≤ most → Climb q trace most n s u

-- so many steps, in which the live cells do not rise by more
abbrev pub Walk : (q : Program) → (trace : List Mark) → ℕ → Here → Here → Type 0
Walk q trace n s u = Rise q trace n n s u

-- so many steps, over states with at most so many more live cells than the first or the last has
pub record Climbs (q : Program) (trace : List Mark) (n grown : ℕ) (s u : Here) : Type 0 where
  pub climb : (most : ℕ) → live_cells s + grown ≤ most → live_cells u + grown ≤ most → Climb q trace most n s u

-- so many steps, in which the live cells rise up to those of the last state
pub record Swell (q : Program) (trace : List Mark) (n : ℕ) (s u : Here) : Type 0 where
  pub grown : ℕ
  pub rise : Rise q trace n grown s u
  pub full : live_cells s + grown ≡ live_cells u

-- so many steps over states in which something runs, and then a last one to this state
pub record Finishes (q : Program) (trace : List Mark) (n : ℕ) (s u : Here) : Type 0 where
  pub before : Here
  pub leads : Walk q trace n s before
  pub last : next (callbacks q) before ≡ Some u

-- so many steps lead to a state whose next step is this fault, in this function
pub record FaultsAfter (q : Program) (trace : List Mark) (f : Text) (fault : Fault) (s : Here) : Type 0 where
  pub steps : ℕ
  pub grown : ℕ
  pub last : Here
  pub leads : Rise q trace steps grown s last
  pub faults : next (callbacks q) last ≡ Some (ends (Failed fault (before_underscores f)) last)
