-- Waits that fault, and sections that are submitted.
use Rattle.std.proofs.Common.{◌≡◌, ℕ, suc, true, ℤ, List, [], ◌∷◌, Some, None, Err, refl, ◌∙◌, ap, codes}
use Rattle.cpc_base.specs.Bytes.{Text}
use Rattle.cpc_num.specs.declared.kinds.Fault.{Fault}
use Rattle.cpc_num.specs.declared.kinds.Kind.TheVariants.{Long}
use Rattle.cpc_tree.specs.declared.program.Mode.TheVariants.{Detached}
use Rattle.cpc_tree.specs.Syntax.{Ty, TyInt, TyCondvar, Expr, ENamed, Exprs, AndExpr, Stmt, Stmts, AndStmt, Function, Program}
use Rattle.cpc_tree.specs.Typing.{Scope, NotMeant, AFunction, named, function_named}
use Rattle.cpc_tree.specs.Points.{Point, Simple}
use Rattle.cpc_tree.specs.Points as P
use Rattle.cpc_tree.specs.Trace.{Mark, Failed}
use Rattle.cpc_store.specs.declared.values.Class.TheVariants.{Frame}
use Rattle.cpc_store.specs.Store.{Value, Unset, Whole, At, Code, Cond, Store}
use Rattle.cpc_meaning.specs.Answer.{Gives, Faults, ◌>>=◌}
use Rattle.cpc_meaning.specs.Agenda.{Agenda, sleep, wait}
use Rattle.cpc_meaning.specs.Eval.{Slot, value, values, at_type}
use Rattle.cpc_meaning.specs.Act.{simple_act}
use Rattle.cpc_meaning.specs.Plain.{Frame as CallFrame}
use Rattle.cpc_meaning.specs.Trees.{trees}
use Rattle.cpc_meaning.specs.Requests.{Builtin, RtSleep, RtWait, RtDetach, all_taken, detach_takes}
use Rattle.cpc_meaning.specs.Section.{Job}
use Rattle.cpc_meaning.specs.Machine.{next, ends, reply, submits}
use Rattle.cpc_meaning.specs.Start.{before_underscores}
use Rattle.cpc_meaning.specs.Events.{Callback, CallWith, callbacks}
use Rattle.cpc_convert_flat_laws.specs.Flat.{point_at, standing, LineAt}
use Rattle.cpc_convert_flat_laws.specs.Locals.{at, Holds}
use Rattle.cpc_convert_flat_laws.specs.Walks.{World, frame_at, at_line}
use Rattle.cpc_chains_store_laws.specs.Driver.{drive_name, DriverMeant, sleeps, waits, detaches}
use Rattle.cpc_convert_flat_laws.proofs.Fields.{held}
use Rattle.cpc_convert_flat_laws.proofs.AtLine.{line_path, line_found, line_scope, line_next}
use Rattle.cpc_convert_flat_laws.proofs.Steps.{step_asks, step_fails, step_faults, replied}

module _ (q : Program) (w : World) (fn : Text) (g : Function) (body : Stmts) (below : List (CallFrame Point)) (is_g : function_named q fn ≡ Some g) (k : ℕ) (scope : Scope) (n : ℕ) (rest : Stmts) (slots : List Slot) (s : Store) (x : Text) (t : Ty) (b : ℕ) (h : Holds q scope slots x t (At Frame b 0)) (is_drive : DriverMeant q scope) where
  -- a wait for a condition that is not live
  pub wait_fails : (e : Expr) (l : LineAt g body k scope n (waits e x) rest) → named q scope (codes "rt_wait") ≡ NotMeant → (u : Value) (c : ℕ) → value (at q scope slots s) e ≡ Gives u → at_type TyCondvar u ≡ Gives (Cond c)
      → (fault : Fault) → wait c (CallWith drive_name (At Frame b 0)) w.agenda ≡ Err fault
      → next (callbacks q) (at_line w fn below k (AndStmt l.statement rest) slots s) ≡ Some (ends (Failed fault (before_underscores fn)) (at_line w fn below k (AndStmt l.statement rest) slots s))
  wait_fails e l is_named u c is_value is_cond fault is_fault =
      step_fails q w fn g below is_g slots s (line_path g body k scope n (waits e x) rest l) scope (line_scope g body k scope n (waits e x) rest l _) (Simple (waits e x)) (line_found g body k scope n (waits e x) rest l)
      (record { asked = Builtin RtWait; arguments = Cond c ∷ Code drive_name ∷ At Frame b 0 ∷ [] }) fault
      (let v = held q scope slots s x t (At Frame b 0) h in simp (is_named, is_value, is_drive, v, is_cond) refl) (simp (is_fault) refl)

  -- a sleep that the agenda refuses
  pub sleep_fails : (e : Expr) (l : LineAt g body k scope n (sleeps e x) rest) → named q scope (codes "rt_sleep") ≡ NotMeant → (u : Value) (z : ℤ) → value (at q scope slots s) e ≡ Gives u → at_type (TyInt Long) u ≡ Gives (Whole Long z)
      → (fault : Fault) → sleep z (CallWith drive_name (At Frame b 0)) w.agenda ≡ Err fault
      → next (callbacks q) (at_line w fn below k (AndStmt l.statement rest) slots s) ≡ Some (ends (Failed fault (before_underscores fn)) (at_line w fn below k (AndStmt l.statement rest) slots s))
  sleep_fails e l is_named u z is_value is_long fault is_fault =
      step_fails q w fn g below is_g slots s (line_path g body k scope n (sleeps e x) rest l) scope (line_scope g body k scope n (sleeps e x) rest l _) (Simple (sleeps e x)) (line_found g body k scope n (sleeps e x) rest l)
      (record { asked = Builtin RtSleep; arguments = Whole Long z ∷ Code drive_name ∷ At Frame b 0 ∷ [] }) fault
      (let v = held q scope slots s x t (At Frame b 0) h in simp (is_named, is_value, is_drive, v, is_long) refl) (simp (is_fault) refl)

  -- what a line evaluates faults
  pub line_faults : (y : Stmt) (l : LineAt g body k scope n y rest) → standing y ≡ Simple y → (fault : Fault) → simple_act (at q scope slots s) g.result y ≡ Faults fault
      → next (callbacks q) (at_line w fn below k (AndStmt l.statement rest) slots s) ≡ Some (ends (Failed fault (before_underscores fn)) (at_line w fn below k (AndStmt l.statement rest) slots s))
  line_faults y l stands fault is_fault =
      step_faults q w fn g below is_g slots s (line_path g body k scope n y rest l) scope (line_scope g body k scope n y rest l _) (Simple y) (line_found g body k scope n y rest l ∙ stands) fault is_fault

  -- a section is submitted
  pub detach_step : (f : Text) (es : Exprs) (l : LineAt g body k scope n (detaches x f es) rest) → named q scope (codes "rt_detach") ≡ NotMeant → (r : Ty) (ps : List Ty) → named q scope f ≡ AFunction Detached r ps
      → (vs ws : List Value) → values (at q scope slots s) es ≡ Gives vs → all_taken (detach_takes (function_named q f)) (Code f ∷ vs) ≡ Gives (Code f ∷ ws)
      → (a : Agenda Callback) (jobs : List Job) (marks : List Mark)
      → submits (trees q) f ws (CallWith drive_name (At Frame b 0)) (at_line w fn below k (AndStmt l.statement rest) slots s) ≡ Gives (at_line (record w { agenda = a; jobs = jobs; trace = marks }) fn below k (AndStmt l.statement rest) slots s)
      → next (callbacks q) (at_line w fn below k (AndStmt l.statement rest) slots s) ≡ Some (at_line (record w { agenda = a; jobs = jobs; trace = marks }) fn below (suc k) rest slots s)
  detach_step f es l is_named r ps is_f vs ws are_values are_taken a jobs marks is_submitted =
      let y = detaches x f es in
      let w' : World = record w { agenda = a; jobs = jobs; trace = marks } in
      let path = line_path g body k scope n y rest l in
      let is_found = line_found g body k scope n y rest l in
      let is_scope = line_scope g body k scope n y rest l _ in
      let is_next = line_next g body k scope n y rest l true refl refl in
      let reply_is = replied q w' fn g below is_g slots s path scope is_scope None (ENamed (codes "rt_detach")) (AndExpr (ENamed drive_name) (AndExpr (ENamed x) (AndExpr (ENamed f) es))) is_found Unset s s slots (point_at (suc k) rest) refl is_next in
      step_asks q w fn g below is_g slots s path scope is_scope (Simple y) is_found (record { asked = Builtin RtDetach; arguments = Code drive_name ∷ At Frame b 0 ∷ Code f ∷ ws }) (at_line w' fn below (suc k) rest slots s)
      (let v = held q scope slots s x t (At Frame b 0) h in simp (is_named, is_drive, v, is_f, are_values, are_taken) refl) (ap (λ z. z >>= λ u. reply (trees q) (record { frames = frame_at fn (P.Here path) slots ∷ below; arriving = None }) Unset u) is_submitted ∙ reply_is)
