-- The laws of lines, as statements: what one does, and that none addresses a local.
use Rattle.std.specs.Prelude.{◌≡◌, Bool, true, [], ℕ, suc, List, ◌∷◌, Option, Some, None}
use Rattle.cpc_base.specs.Bytes.{Text}
use Rattle.cpc_tree.specs.Syntax.{Block, Stmts, Function, Expr, Exprs, Stmt, Call, If, Absent, AndStmt, Program}
use Rattle.cpc_tree.specs.Registers.{addressed, outer_scope}
use Rattle.cpc_convert_flat_laws.specs.Addresses.{Among, avoids_in}
use Rattle.cpc_num.specs.declared.kinds.Fault.{Fault}
use Rattle.cpc_tree.specs.Typing.{Scope, function_named}
use Rattle.cpc_tree.specs.Points.{Point, Simple}
use Rattle.cpc_tree.specs.Trace.{Failed}
use Rattle.cpc_store.specs.Store.{Value, Store}
use Rattle.cpc_meaning.specs.Answer.{Gives, Faults}
use Rattle.cpc_meaning.specs.Eval.{Slot, value}
use Rattle.cpc_meaning.specs.Act.{Enters, AsksFor, simple_act, deliver}
use Rattle.cpc_meaning.specs.Slots.{call_slots}
use Rattle.cpc_meaning.specs.Plain.{Frame as CallFrame}
use Rattle.cpc_meaning.specs.Trees.{trees, first_point}
use Rattle.cpc_meaning.specs.Requests.{Request}
use Rattle.cpc_meaning.specs.Machine.{next, ends, asked_by, reply, settled}
use Rattle.cpc_meaning.specs.Start.{before_underscores}
use Rattle.cpc_meaning.specs.Events.{callbacks}
use Rattle.cpc_convert_flat_laws.specs.Flat.{standing, LineAt}
use Rattle.cpc_convert_flat_laws.specs.Locals.{at}
use Rattle.cpc_convert_flat_laws.specs.Walks.{World, at_line, running, frame_at, line_stack, arriving_at}

-- a flat function that applies `&` to no local addresses none
abbrev pub NoneIsAddressed : Type 0
NoneIsAddressed = (L : Text → Bool) (f : Function) (ss : Stmts) → f.body ≡ Block ss → Among L (outer_scope f) → avoids_in L ss ≡ true → addressed f ≡ []

-- a line does what its act says: a function is entered, a value arrives, the machine is asked and answers, a test faults
pub record LinesAct (q : Program) (w : World) (fn : Text) (g : Function) (body : Stmts) (below : List (CallFrame Point)) (k : ℕ) (scope : Scope) (n : ℕ) (rest : Stmts) (slots : List Slot) (s : Store) : Type 0 where
  pub enters : (x : Stmt) (l : LineAt g body k scope n x rest) → standing x ≡ Simple x → (f : Function) (vs : List Value) (t : Store) (entered : List Slot) → simple_act (at q scope slots s) g.result x ≡ Gives (Enters f vs) → call_slots q f vs s ≡ Gives (entered, t)
      → next (callbacks q) (at_line w fn below k (AndStmt l.statement rest) slots s) ≡ Some (running w t (frame_at f.called (first_point (function_named q f.called)) entered ∷ arriving_at fn k l.statement slots ∷ below) None)
  pub arrives : (target : Option Expr) (f : Expr) (es : Exprs) (l : LineAt g body k scope n (Call target f es) rest) (v : Value) (t : Store) (slots' : List Slot) → deliver (at q scope slots s) target v ≡ Gives (slots', t)
      → next (callbacks q) (running w s (arriving_at fn k l.statement slots ∷ below) (Some v)) ≡ Some (at_line w fn below (suc k) rest slots' t)
  pub asks : (x : Stmt) (l : LineAt g body k scope n x rest) → standing x ≡ Simple x → (r : Request) → simple_act (at q scope slots s) g.result x ≡ Gives (AsksFor r)
      → next (callbacks q) (at_line w fn below k (AndStmt l.statement rest) slots s) ≡ settled (callbacks q) (at_line w fn below k (AndStmt l.statement rest) slots s) (asked_by (callbacks q) (line_stack fn below k l.statement slots) (at_line w fn below k (AndStmt l.statement rest) slots s) r.asked r.arguments)
  pub answers : (target : Option Expr) (f : Expr) (es : Exprs) (l : LineAt g body k scope n (Call target f es) rest) (v : Value) (t u : Store) (slots' : List Slot) → deliver (at q scope slots t) target v ≡ Gives (slots', u)
      → reply (trees q) (line_stack fn below k l.statement slots) v (at_line w fn below k (AndStmt l.statement rest) slots t) ≡ Gives (at_line w fn below (suc k) rest slots' u)
  pub faults : (t : Expr) (a : Stmt) (l : LineAt g body k scope n (If t a Absent) rest) (fault : Fault) → value (at q scope slots s) t ≡ Faults fault
      → next (callbacks q) (at_line w fn below k (AndStmt l.statement rest) slots s) ≡ Some (ends (Failed fault (before_underscores fn)) (at_line w fn below k (AndStmt l.statement rest) slots s))

abbrev pub LinesActInPlace : Type 0
LinesActInPlace =
    (q : Program) (w : World) (fn : Text) (g : Function) (body : Stmts) (below : List (CallFrame Point)) → function_named q fn ≡ Some g → (k : ℕ) (scope : Scope) (n : ℕ) (rest : Stmts) (slots : List Slot) (s : Store)
    → LinesAct q w fn g body below k scope n rest slots s
