-- Single steps of a frame of the event machine, by what stands there.
use Rattle.std.proofs.Common.{◌≡◌, Bool, true, List, [], ◌∷◌, Option, Some, None, refl}
use Rattle.cpc_base.specs.Bytes.{Text}
use Rattle.cpc_tree.specs.Syntax.{Expr, Exprs, Call, Function, Program}
use Rattle.cpc_tree.specs.Typing.{Scope, function_named}
use Rattle.cpc_tree.specs.Points.{Path, Point, Arrival, End, Found, Simple, Test, found, next_point}
use Rattle.cpc_tree.specs.Points as P
use Rattle.cpc_tree.specs.Trace.{Failed}
use Rattle.cpc_num.specs.declared.kinds.Fault.{Fault}
use Rattle.cpc_tree.specs.Registers.{scope_in_function}
use Rattle.cpc_store.specs.Store.{Value, Unset, Store}
use Rattle.cpc_meaning.specs.Answer.{Gives, Faults}
use Rattle.cpc_meaning.specs.Eval.{Slot}
use Rattle.cpc_meaning.specs.Act.{GoesOn, Enters, Leaves, AsksFor, found_act, deliver}
use Rattle.cpc_meaning.specs.Slots.{call_slots, free_slots}
use Rattle.cpc_meaning.specs.Plain.{Frame}
use Rattle.cpc_meaning.specs.Trees.{trees, first_point}
use Rattle.cpc_meaning.specs.Requests.{Request}
use Rattle.cpc_meaning.specs.Machine.{next, asked_by, reply, ends}
use Rattle.cpc_meaning.specs.Start.{before_underscores}
use Rattle.cpc_meaning.specs.Events.{callbacks}
use Rattle.cpc_convert_flat_laws.specs.Locals.{at}
use Rattle.cpc_convert_flat_laws.specs.Walks.{World, Here, running, idle, frame_at, in_function}

module _ (q : Program) (w : World) (fn : Text) (g : Function) (below : List (Frame Point)) (is_g : function_named q fn ≡ Some g) (slots : List Slot) (s : Store) where
  module _ (path : Path) (scope : Scope) (is_scope : scope_in_function g path ≡ scope) (x : Found) (is_found : found g.body path ≡ x) where
    -- control goes on
    pub step_on : (h : Bool) (t : Store) (slots' : List Slot) (point : Point) → found_act (at q scope slots s) g.result x ≡ Gives (GoesOn h t slots') → next_point g.body (P.Here path) h ≡ Some point
        → next (callbacks q) (in_function w fn below (P.Here path) slots s) ≡ Some (in_function w fn below point slots' t)
    step_on h t slots' point is_act is_next = simp (is_g, is_found, is_scope, is_act, is_next) refl

    -- the machine is asked
    pub step_asks : (r : Request) (z : Here) → found_act (at q scope slots s) g.result x ≡ Gives (AsksFor r)
        → asked_by (callbacks q) (record { frames = frame_at fn (P.Here path) slots ∷ below; arriving = None }) (in_function w fn below (P.Here path) slots s) r.asked r.arguments ≡ Gives z
        → next (callbacks q) (in_function w fn below (P.Here path) slots s) ≡ Some z
    step_asks r z is_act is_answer = simp (is_g, is_found, is_scope, is_act, is_answer) refl

    -- the machine is asked, and faults
    pub step_fails : (r : Request) (fault : Fault) → found_act (at q scope slots s) g.result x ≡ Gives (AsksFor r)
        → asked_by (callbacks q) (record { frames = frame_at fn (P.Here path) slots ∷ below; arriving = None }) (in_function w fn below (P.Here path) slots s) r.asked r.arguments ≡ Faults fault
        → next (callbacks q) (in_function w fn below (P.Here path) slots s) ≡ Some (ends (Failed fault (before_underscores fn)) (in_function w fn below (P.Here path) slots s))
    step_fails r fault is_act is_answer = simp (is_g, is_found, is_scope, is_act, is_answer) refl

    -- what is done there faults
    pub step_faults : (fault : Fault) → found_act (at q scope slots s) g.result x ≡ Faults fault
        → next (callbacks q) (in_function w fn below (P.Here path) slots s) ≡ Some (ends (Failed fault (before_underscores fn)) (in_function w fn below (P.Here path) slots s))
    step_faults fault is_act = simp (is_g, is_found, is_scope, is_act) refl

    -- a function is entered
    pub step_enters : (f : Function) (vs : List Value) (t : Store) (entered : List Slot) → found_act (at q scope slots s) g.result x ≡ Gives (Enters f vs) → call_slots q f vs s ≡ Gives (entered, t)
        → next (callbacks q) (in_function w fn below (P.Here path) slots s) ≡ Some (running w t (frame_at f.called (first_point (function_named q f.called)) entered ∷ frame_at fn (Arrival path) slots ∷ below) None)
    step_enters f vs t entered is_act is_call = simp (is_g, is_found, is_scope, is_act, is_call) refl

  -- a value is returned to a frame below
  pub step_returns : (path : Path) (scope : Scope) → scope_in_function g path ≡ scope → (x : Found) → found g.body path ≡ x → (v : Value) (t : Store) (frame : Frame Point) (others : List (Frame Point)) → below ≡ frame ∷ others
      → found_act (at q scope slots s) g.result x ≡ Gives (Leaves v t) → next (callbacks q) (in_function w fn below (P.Here path) slots s) ≡ Some (running w t (frame ∷ others) (Some v))
  step_returns path scope is_scope x is_found v t frame others is_below is_act = simp (is_g, is_found, is_scope, is_act, is_below) refl

  -- the end of a body is the end of the run of its callback
  pub step_ends : (t : Store) → below ≡ [] → free_slots slots s ≡ Gives t → next (callbacks q) (in_function w fn below End slots s) ≡ Some (idle w t)
  step_ends t is_below is_free = simp (is_g, is_free, is_below) refl

  -- the end of a body above other frames
  pub step_leaves : (t : Store) (frame : Frame Point) (others : List (Frame Point)) → below ≡ frame ∷ others → free_slots slots s ≡ Gives t
      → next (callbacks q) (in_function w fn below End slots s) ≡ Some (running w t (frame ∷ others) (Some Unset))
  step_leaves t frame others is_below is_free = simp (is_g, is_free, is_below) refl

  -- a value arrives
  pub step_arrives : (path : Path) (scope : Scope) → scope_in_function g path ≡ scope → (target : Option Expr) (f : Expr) (es : Exprs) → found g.body path ≡ Simple (Call target f es)
      → (v : Value) (t : Store) (slots' : List Slot) (point : Point) → deliver (at q scope slots s) target v ≡ Gives (slots', t) → next_point g.body (Arrival path) true ≡ Some point
      → next (callbacks q) (running w s (frame_at fn (Arrival path) slots ∷ below) (Some v)) ≡ Some (in_function w fn below point slots' t)
  step_arrives path scope is_scope target f es is_found v t slots' point is_deliver is_next = simp (is_g, is_found, is_scope, is_deliver, is_next) refl

  -- the answer to a request is written
  pub replied : (path : Path) (scope : Scope) → scope_in_function g path ≡ scope → (target : Option Expr) (f : Expr) (es : Exprs) → found g.body path ≡ Simple (Call target f es)
      → (v : Value) (t u : Store) (slots' : List Slot) (point : Point) → deliver (at q scope slots t) target v ≡ Gives (slots', u) → next_point g.body (P.Here path) true ≡ Some point
      → reply (trees q) (record { frames = frame_at fn (P.Here path) slots ∷ below; arriving = None }) v (in_function w fn below (P.Here path) slots t) ≡ Gives (in_function w fn below point slots' u)
  replied path scope is_scope target f es is_found v t u slots' point is_deliver is_next = simp (is_g, is_found, is_scope, is_deliver, is_next) refl
