-- Callbacks are made ready or wait: one step each, which the machine's agenda takes.
use Rattle.std.proofs.Common.{◌≡◌, ℕ, suc, true, ℤ, List, [], ◌∷◌, Some, None, Ok, refl, ◌∙◌, codes}
use Rattle.cpc_base.specs.Bytes.{Text}
use Rattle.cpc_num.specs.declared.kinds.Kind.TheVariants.{Int, Long}
use Rattle.cpc_tree.specs.Syntax.{Ty, TyInt, TyCondvar, Expr, ENamed, Exprs, NoExpr, AndExpr, Call, Stmts, AndStmt, Function, Program}
use Rattle.cpc_tree.specs.Typing.{Scope, NotMeant, named, function_named}
use Rattle.cpc_tree.specs.Points.{Point, Simple}
use Rattle.cpc_tree.specs.Points as P
use Rattle.cpc_tree.specs.Trace.{Going, Sleeping, Waiting, Awaiting}
use Rattle.cpc_store.specs.declared.values.Class.TheVariants.{Frame}
use Rattle.cpc_store.specs.Store.{Value, Unset, Whole, At, Code, Cond, Store}
use Rattle.cpc_meaning.specs.Answer.{Gives}
use Rattle.cpc_meaning.specs.Agenda.{Agenda, ready_one, sleep, io, wait}
use Rattle.cpc_meaning.specs.Eval.{Slot, value, at_type}
use Rattle.cpc_meaning.specs.Act.{AsksFor, simple_act}
use Rattle.cpc_meaning.specs.Plain.{Frame as CallFrame}
use Rattle.cpc_meaning.specs.Trees.{trees}
use Rattle.cpc_meaning.specs.Requests.{Request, Builtin, RtReady, RtSleep, RtIo, RtWait}
use Rattle.cpc_meaning.specs.Machine.{next, asked_by, acts, direction_of}
use Rattle.cpc_meaning.specs.Events.{Callback, CallWith, callbacks}
use Rattle.cpc_convert_flat_laws.specs.Flat.{point_at, LineAt}
use Rattle.cpc_convert_flat_laws.specs.Locals.{at, Holds}
use Rattle.cpc_convert_flat_laws.specs.Walks.{World, frame_at, at_line}
use Rattle.cpc_chains_store_laws.specs.Driver.{drive_name, with_marks, with_agenda, DriverMeant, readies, sleeps, waits, awaits}
use Rattle.cpc_convert_flat_laws.proofs.Fields.{held}
use Rattle.cpc_convert_flat_laws.proofs.Flat.{path_at}
use Rattle.cpc_convert_flat_laws.proofs.AtLine.{line_path, line_found, line_scope, line_next}
use Rattle.cpc_convert_flat_laws.proofs.Steps.{step_asks, replied}

module _ (q : Program) (w : World) (fn : Text) (g : Function) (body : Stmts) (below : List (CallFrame Point)) (is_g : function_named q fn ≡ Some g) (k : ℕ) (scope : Scope) (n : ℕ) (rest : Stmts) (slots : List Slot) (s : Store) where
  -- a line that asks for an act on the agenda
  acts_step : (f : Expr) (es : Exprs) (l : LineAt g body k scope n (Call None f es) rest) (r : Request) (w' : World) → simple_act (at q scope slots s) g.result (Call None f es) ≡ Gives (AsksFor r)
      → asked_by (callbacks q) (record { frames = frame_at fn (P.Here (path_at k l.statement)) slots ∷ below; arriving = None }) (at_line w fn below k (AndStmt l.statement rest) slots s) r.asked r.arguments
      ≡ acts (trees q) (record { frames = frame_at fn (P.Here (path_at k l.statement)) slots ∷ below; arriving = None }) (Ok w'.agenda) (record { store = s; running = Some (record { frames = frame_at fn (P.Here (path_at k l.statement)) slots ∷ below; arriving = None }); agenda = w.agenda; jobs = w'.jobs; history = w'.history; trace = w'.trace; outcome = Going })
      → next (callbacks q) (at_line w fn below k (AndStmt l.statement rest) slots s) ≡ Some (at_line w' fn below (suc k) rest slots s)
  acts_step f es l r w' is_act is_answer =
      let x = Call None f es in
      let path = line_path g body k scope n x rest l in
      let is_found = line_found g body k scope n x rest l in
      let is_scope = line_scope g body k scope n x rest l _ in
      let is_next = line_next g body k scope n x rest l true refl refl in
      step_asks q w fn g below is_g slots s path scope is_scope (Simple x) is_found r (at_line w' fn below (suc k) rest slots s) is_act
      (is_answer ∙ replied q w' fn g below is_g slots s path scope is_scope None f es is_found Unset s s slots (point_at (suc k) rest) refl is_next)

  -- a callback is made ready
  pub ready_step : (x : Text) (l : LineAt g body k scope n (readies x) rest) → named q scope (codes "rt_ready") ≡ NotMeant → DriverMeant q scope → (t : Ty) (b : ℕ) → Holds q scope slots x t (At Frame b 0)
      → next (callbacks q) (at_line w fn below k (AndStmt l.statement rest) slots s) ≡ Some (at_line (with_agenda w (ready_one (CallWith drive_name (At Frame b 0)) w.agenda)) fn below (suc k) rest slots s)
  ready_step x l is_named is_drive t b h =
      acts_step (ENamed (codes "rt_ready")) (AndExpr (ENamed drive_name) (AndExpr (ENamed x) NoExpr)) l (record { asked = Builtin RtReady; arguments = Code drive_name ∷ At Frame b 0 ∷ [] }) (with_agenda w (ready_one (CallWith drive_name (At Frame b 0)) w.agenda))
      (let v = held q scope slots s x t (At Frame b 0) h in simp (is_named, is_drive, v) refl) refl

  module _ (x : Text) (t : Ty) (b : ℕ) (h : Holds q scope slots x t (At Frame b 0)) (is_drive : DriverMeant q scope) where
    abbrev callback : Callback
    callback = CallWith drive_name (At Frame b 0)

    -- one that sleeps
    pub sleep_step : (e : Expr) (l : LineAt g body k scope n (sleeps e x) rest) → named q scope (codes "rt_sleep") ≡ NotMeant → (u : Value) (z : ℤ) → value (at q scope slots s) e ≡ Gives u → at_type (TyInt Long) u ≡ Gives (Whole Long z)
        → (a : Agenda Callback) → sleep z callback w.agenda ≡ Ok a
        → next (callbacks q) (at_line w fn below k (AndStmt l.statement rest) slots s) ≡ Some (at_line (with_marks w a (Sleeping z ∷ [])) fn below (suc k) rest slots s)
    sleep_step e l is_named u z is_value is_long a is_agenda =
        acts_step (ENamed (codes "rt_sleep")) (AndExpr e (AndExpr (ENamed drive_name) (AndExpr (ENamed x) NoExpr))) l (record { asked = Builtin RtSleep; arguments = Whole Long z ∷ Code drive_name ∷ At Frame b 0 ∷ [] }) (with_marks w a (Sleeping z ∷ []))
        (let v = held q scope slots s x t (At Frame b 0) h in simp (is_named, is_value, is_drive, v, is_long) refl) (simp (is_agenda) refl)

    -- one that waits for a condition
    pub wait_step : (e : Expr) (l : LineAt g body k scope n (waits e x) rest) → named q scope (codes "rt_wait") ≡ NotMeant → (u : Value) (c : ℕ) → value (at q scope slots s) e ≡ Gives u → at_type TyCondvar u ≡ Gives (Cond c)
        → (a : Agenda Callback) → wait c callback w.agenda ≡ Ok a
        → next (callbacks q) (at_line w fn below k (AndStmt l.statement rest) slots s) ≡ Some (at_line (with_marks w a (Waiting c ∷ [])) fn below (suc k) rest slots s)
    wait_step e l is_named u c is_value is_cond a is_agenda =
        acts_step (ENamed (codes "rt_wait")) (AndExpr e (AndExpr (ENamed drive_name) (AndExpr (ENamed x) NoExpr))) l (record { asked = Builtin RtWait; arguments = Cond c ∷ Code drive_name ∷ At Frame b 0 ∷ [] }) (with_marks w a (Waiting c ∷ []))
        (let v = held q scope slots s x t (At Frame b 0) h in simp (is_named, is_value, is_drive, v, is_cond) refl) (simp (is_agenda) refl)

    -- one that waits for a descriptor
    pub io_step : (d e : Expr) (l : LineAt g body k scope n (awaits d e x) rest) → named q scope (codes "rt_io") ≡ NotMeant → (u v : Value) (fd way : ℤ) → value (at q scope slots s) d ≡ Gives u → at_type (TyInt Int) u ≡ Gives (Whole Int fd)
        → value (at q scope slots s) e ≡ Gives v → at_type (TyInt Int) v ≡ Gives (Whole Int way)
        → next (callbacks q) (at_line w fn below k (AndStmt l.statement rest) slots s) ≡ Some (at_line (with_marks w (io fd (direction_of way) callback w.agenda) (Awaiting fd (direction_of way) ∷ [])) fn below (suc k) rest slots s)
    io_step d e l is_named u v fd way is_d is_fd is_e is_way =
        acts_step (ENamed (codes "rt_io")) (AndExpr d (AndExpr e (AndExpr (ENamed drive_name) (AndExpr (ENamed x) NoExpr)))) l (record { asked = Builtin RtIo; arguments = Whole Int fd ∷ Whole Int way ∷ Code drive_name ∷ At Frame b 0 ∷ [] }) (with_marks w (io fd (direction_of way) callback w.agenda) (Awaiting fd (direction_of way) ∷ []))
        (let p = held q scope slots s x t (At Frame b 0) h in simp (is_named, is_d, is_e, is_drive, p, is_fd, is_way) refl) refl
