-- A value arrives at a statement of the event machine, or is the answer to what it asked.
use Rattle.std.proofs.Common.{◌≡◌, Bool, List, ◌∷◌, Option, Some, None, refl}
use Rattle.cpc_base.specs.Bytes.{Text}
use Rattle.cpc_num.specs.declared.kinds.Fault.{Fault}
use Rattle.cpc_store.specs.Store.{Value, Store}
use Rattle.cpc_tree.specs.Points.{Path, Point, Arrival, Found, found, next_point}
use Rattle.cpc_tree.specs.Points as P
use Rattle.cpc_tree.specs.Registers.{scope_in_function}
use Rattle.cpc_tree.specs.Syntax.{Function, Program}
use Rattle.cpc_tree.specs.Trace.{Failed}
use Rattle.cpc_tree.specs.Typing.{Scope, function_named}
use Rattle.cpc_meaning.specs.Act.{GoesOn, AsksFor, found_act, arrives}
use Rattle.cpc_meaning.specs.Answer.{Gives, Faults}
use Rattle.cpc_meaning.specs.Eval.{Slot}
use Rattle.cpc_meaning.specs.Events.{callbacks}
use Rattle.cpc_meaning.specs.Machine.{next, ends}
use Rattle.cpc_meaning.specs.Plain.{Frame, Went, Asks, frames_step, answered}
use Rattle.cpc_meaning.specs.Requests.{Request}
use Rattle.cpc_meaning.specs.Start.{before_underscores}
use Rattle.cpc_meaning.specs.Trees.{trees}
use Rattle.cpc_convert_flat_laws.specs.Locals.{at}
use Rattle.cpc_convert_flat_laws.specs.Walks.{World, running, frame_at}

module _ (q : Program) (fn : Text) (g : Function) (below : List (Frame Point)) (is_g : function_named q fn ≡ Some g) (slots : List Slot) (s : Store) (path : Path) (scope : Scope) (is_scope : scope_in_function g path ≡ scope) (x : Found) (is_found : found g.body path ≡ x) where
  -- control goes on behind the arrival
  pub arrival_goes : (w : World) (v : Value) (h : Bool) (t : Store) (b : List Slot) (point : Point) → arrives (at q scope slots s) x (Some v) ≡ Gives (GoesOn h t b) → next_point g.body (Arrival path) h ≡ Some point
      → next (callbacks q) (running w s (frame_at fn (Arrival path) slots ∷ below) (Some v)) ≡ Some (running w t (frame_at fn point b ∷ below) None)
  arrival_goes w v h t b point is_act is_next = simp (is_g, is_found, is_scope, is_act, is_next) refl

  -- the arrival faults
  pub arrival_faults : (w : World) (v : Value) (fault : Fault) → arrives (at q scope slots s) x (Some v) ≡ Faults fault
      → next (callbacks q) (running w s (frame_at fn (Arrival path) slots ∷ below) (Some v)) ≡ Some (ends (Failed fault (before_underscores fn)) (running w s (frame_at fn (Arrival path) slots ∷ below) (Some v)))
  arrival_faults w v fault is_act = simp (is_g, is_found, is_scope, is_act) refl

  -- the statement asks
  pub statement_asks : (o : Option Value) (r : Request) → found_act (at q scope slots s) g.result x ≡ Gives (AsksFor r) → frames_step (trees q) s o (frame_at fn (P.Here path) slots ∷ below) ≡ Gives (Asks r)
  statement_asks o r is_act = simp (is_g, is_found, is_scope, is_act) refl

  -- the answer is taken, and control goes on
  pub answer_goes : (o : Option Value) (v : Value) (h : Bool) (t : Store) (b : List Slot) (point : Point) → arrives (at q scope slots s) x (Some v) ≡ Gives (GoesOn h t b) → next_point g.body (P.Here path) h ≡ Some point
      → answered (trees q) s (record { frames = frame_at fn (P.Here path) slots ∷ below; arriving = o }) v ≡ Gives (Went t (record { frames = frame_at fn point b ∷ below; arriving = None }))
  answer_goes o v h t b point is_act is_next = simp (is_g, is_found, is_scope, is_act, is_next) refl

  -- or it faults
  pub answer_faults : (o : Option Value) (v : Value) (fault : Fault) → arrives (at q scope slots s) x (Some v) ≡ Faults fault → answered (trees q) s (record { frames = frame_at fn (P.Here path) slots ∷ below; arriving = o }) v ≡ Faults fault
  answer_faults o v fault is_act = simp (is_g, is_found, is_scope, is_act) refl
