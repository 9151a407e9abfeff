-- Lines of a piece that do what their sources do: native calls, requests, arrivals, and faults.
use Rattle.std.proofs.Common.{◌≡◌, ℕ, suc, true, List, ◌∷◌, Option, Some, None, refl, ◌∙◌}
use Rattle.cpc_base.specs.Bytes.{Text}
use Rattle.cpc_num.specs.declared.kinds.Fault.{Fault}
use Rattle.cpc_tree.specs.Syntax.{Expr, Exprs, Stmt, Call, If, Absent, Stmts, AndStmt, Function, Program}
use Rattle.cpc_tree.specs.Typing.{Scope, function_named}
use Rattle.cpc_tree.specs.Points.{Point, Arrival, Simple, Test}
use Rattle.cpc_tree.specs.Points as P
use Rattle.cpc_tree.specs.Trace.{Failed}
use Rattle.cpc_store.specs.Store.{Value, Store}
use Rattle.cpc_meaning.specs.Answer.{Gives, Faults}
use Rattle.cpc_meaning.specs.Eval.{Slot, value, holds}
use Rattle.cpc_meaning.specs.Act.{Enters, AsksFor, simple_act, deliver}
use Rattle.cpc_meaning.specs.Slots.{call_slots}
use Rattle.cpc_meaning.specs.Requests.{Request}
use Rattle.cpc_meaning.specs.Plain.{Frame as CallFrame}
use Rattle.cpc_meaning.specs.Trees.{trees, first_point}
use Rattle.cpc_meaning.specs.Machine.{next, ends, asked_by, reply, settled}
use Rattle.cpc_meaning.specs.Start.{before_underscores}
use Rattle.cpc_meaning.specs.Events.{callbacks}
use Rattle.cpc_convert_flat_laws.specs.Flat.{point_at, standing, LineAt}
use Rattle.cpc_convert_flat_laws.specs.Locals.{at}
use Rattle.cpc_convert_flat_laws.specs.Walks.{World, running, frame_at, at_line, line_stack, arriving_at}
use Rattle.cpc_convert_flat_laws.proofs.AtLine.{line_path, line_found, line_scope, line_next}
use Rattle.cpc_convert_flat_laws.proofs.Steps.{step_enters, step_arrives, step_faults, replied}

module _ (q : Program) (w : World) (fn : Text) (g : Function) (body : Stmts) (below : List (CallFrame Point)) (is_g : function_named q fn ≡ Some g) (k : ℕ) (scope : Scope) (n : ℕ) (rest : Stmts) (slots : List Slot) (s : Store) where
  -- a function is entered, over the line at which its value arrives
  pub line_enters : (x : Stmt) (l : LineAt g body k scope n x rest) → standing x ≡ Simple x → (f : Function) (vs : List Value) (t : Store) (entered : List Slot) → simple_act (at q scope slots s) g.result x ≡ Gives (Enters f vs) → call_slots q f vs s ≡ Gives (entered, t)
      → next (callbacks q) (at_line w fn below k (AndStmt l.statement rest) slots s) ≡ Some (running w t (frame_at f.called (first_point (function_named q f.called)) entered ∷ arriving_at fn k l.statement slots ∷ below) None)
  line_enters x l stands f vs t entered is_act is_call =
      step_enters q w fn g below is_g slots s (line_path g body k scope n x rest l) scope (line_scope g body k scope n x rest l _) (Simple x) (line_found g body k scope n x rest l ∙ stands) f vs t entered is_act is_call

  -- a value arrives at a line
  pub line_arrives : (target : Option Expr) (f : Expr) (es : Exprs) (l : LineAt g body k scope n (Call target f es) rest) (v : Value) (t : Store) (slots' : List Slot) → deliver (at q scope slots s) target v ≡ Gives (slots', t)
      → next (callbacks q) (running w s (arriving_at fn k l.statement slots ∷ below) (Some v)) ≡ Some (at_line w fn below (suc k) rest slots' t)
  line_arrives target f es l v t slots' is_deliver =
      let x = Call target f es in
      step_arrives q w fn g below is_g slots s (line_path g body k scope n x rest l) scope (line_scope g body k scope n x rest l _) target f es (line_found g body k scope n x rest l) v t slots' (point_at (suc k) rest) is_deliver (line_next g body k scope n x rest l true refl refl)

  -- the machine is asked
  pub line_asks : (x : Stmt) (l : LineAt g body k scope n x rest) → standing x ≡ Simple x → (r : Request) → simple_act (at q scope slots s) g.result x ≡ Gives (AsksFor r)
      → next (callbacks q) (at_line w fn below k (AndStmt l.statement rest) slots s) ≡ settled (callbacks q) (at_line w fn below k (AndStmt l.statement rest) slots s) (asked_by (callbacks q) (line_stack fn below k l.statement slots) (at_line w fn below k (AndStmt l.statement rest) slots s) r.asked r.arguments)
  line_asks x l stands r is_act =
      let is_found = line_found g body k scope n x rest l ∙ stands in
      let is_scope = line_scope g body k scope n x rest l (P.enter l.statement) in
      simp (is_g, is_found, is_scope, is_act) refl

  -- its answer is written there, whatever else it changed
  pub line_replied : (target : Option Expr) (f : Expr) (es : Exprs) (l : LineAt g body k scope n (Call target f es) rest) (v : Value) (t u : Store) (slots' : List Slot) → deliver (at q scope slots t) target v ≡ Gives (slots', u)
      → reply (trees q) (line_stack fn below k l.statement slots) v (at_line w fn below k (AndStmt l.statement rest) slots t) ≡ Gives (at_line w fn below (suc k) rest slots' u)
  line_replied target f es l v t u slots' is_deliver =
      let x = Call target f es in
      replied q w fn g below is_g slots s (line_path g body k scope n x rest l) scope (line_scope g body k scope n x rest l _) target f es (line_found g body k scope n x rest l) v t u slots' (point_at (suc k) rest) is_deliver (line_next g body k scope n x rest l true refl refl)

  -- a test whose value faults, or cannot be tested
  pub test_faults : (t : Expr) (a : Stmt) (l : LineAt g body k scope n (If t a Absent) rest) (fault : Fault) → value (at q scope slots s) t ≡ Faults fault
      → next (callbacks q) (at_line w fn below k (AndStmt l.statement rest) slots s) ≡ Some (ends (Failed fault (before_underscores fn)) (at_line w fn below k (AndStmt l.statement rest) slots s))
  test_faults t a l fault is_fault =
      let x = If t a Absent in
      step_faults q w fn g below is_g slots s (line_path g body k scope n x rest l) scope (line_scope g body k scope n x rest l _) (Test (Some t)) (line_found g body k scope n x rest l) fault (simp (is_fault) refl)

  pub test_unset : (t : Expr) (a : Stmt) (l : LineAt g body k scope n (If t a Absent) rest) (v : Value) (fault : Fault) → value (at q scope slots s) t ≡ Gives v → holds v ≡ Faults fault
      → next (callbacks q) (at_line w fn below k (AndStmt l.statement rest) slots s) ≡ Some (ends (Failed fault (before_underscores fn)) (at_line w fn below k (AndStmt l.statement rest) slots s))
  test_unset t a l v fault is_value is_fault =
      let x = If t a Absent in
      step_faults q w fn g below is_g slots s (line_path g body k scope n x rest l) scope (line_scope g body k scope n x rest l _) (Test (Some t)) (line_found g body k scope n x rest l) fault (simp (is_value, is_fault) refl)
