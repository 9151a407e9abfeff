-- The laws of calls, returns, faults and sections of pieces, as statements.
use Rattle.std.specs.Prelude.{◌≡◌, ℕ, suc, ◌+◌, ◌<◌, ◌^◌, ℤ, List, [], ◌∷◌, length, Some, Err, codes}
use Rattle.cpc_base.specs.Bytes.{Text}
use Rattle.cpc_num.specs.declared.kinds.Fault.{Fault}
use Rattle.cpc_num.specs.declared.kinds.Kind.TheVariants.{Long}
use Rattle.cpc_tree.specs.declared.program.Mode.TheVariants.{Native, Detached}
use Rattle.cpc_tree.specs.Syntax.{Ty, TyInt, TyCondvar, TyPointer, TyCode, TyStruct, Tys, Expr, ENamed, Exprs, Stmt, Return, Stmts, AndStmt, Function, Program}
use Rattle.cpc_tree.specs.Typing.{Scope, NotMeant, AFunction, named, function_named, field, size}
use Rattle.cpc_tree.specs.Points.{Point, Simple}
use Rattle.cpc_tree.specs.Registers.{variables}
use Rattle.cpc_tree.specs.Trace.{Mark, Failed}
use Rattle.cpc_store.specs.declared.values.Class.TheVariants.{Frame}
use Rattle.cpc_store.specs.Store.{Value, Unset, Null, Whole, At, Code, Cond, Store, next_block, alloc}
use Rattle.cpc_meaning.specs.Answer.{Gives, Faults}
use Rattle.cpc_meaning.specs.Agenda.{Agenda, sleep, wait}
use Rattle.cpc_meaning.specs.Eval.{Slot, value, values, assigned, at_type}
use Rattle.cpc_meaning.specs.Act.{simple_act}
use Rattle.cpc_meaning.specs.Plain.{Frame as CallFrame}
use Rattle.cpc_meaning.specs.Trees.{trees}
use Rattle.cpc_meaning.specs.Requests.{all_taken, detach_takes}
use Rattle.cpc_meaning.specs.Section.{Job}
use Rattle.cpc_meaning.specs.Machine.{next, ends, submits}
use Rattle.cpc_meaning.specs.Start.{before_underscores}
use Rattle.cpc_meaning.specs.Events.{Callback, CallWith, callbacks}
use Rattle.cpc_convert_flat_laws.specs.Boxes.{AllRegisters}
use Rattle.cpc_chains_store_laws.specs.Chains.{Saved, frame_cells, Top}
use Rattle.cpc_chains_store_laws.specs.Driver.{drive_name, any_pointer, head_fields, patches, DriverFacts, DriverMeant, driving, entered, patched, IsPiece, sleeps, waits, detaches}
use Rattle.cpc_convert_flat_laws.specs.Flat.{before, standing, LineAt}
use Rattle.cpc_convert_flat_laws.specs.Locals.{at, PointsTo, Holds, register_slots, AreRegisters}
use Rattle.cpc_chains_store_laws.specs.Frames.{asks_block, pointed_slots, Give, fills_call, Giving, GivingFaults}
use Rattle.cpc_convert_flat_laws.specs.Structs.{IsStruct}
use Rattle.cpc_meaning_laws.specs.Cell.Cells.{call_cells}
use Rattle.cpc_convert_flat_laws.specs.Walks.{World, Rise, Walk, Finishes, at_line, idle, FaultsAfter}

-- what is known where the start frame of a call is made
pub record CallMade (q : Program) (g : Function) (body : Stmts) (k : ℕ) (scope : Scope) (n : ℕ) (rest : Stmts) (slots : List Slot) (s : Store) (to tag head code next piece : Text) (start f lower : Expr) (ps : List Give) (p : Value) : Type 0 where
  pub line : LineAt g body k scope n (asks_block to tag) (before (fills_call start f code next piece lower ps) rest)
  pub is_named : named q scope (codes "rt_frame") ≡ NotMeant
  pub is_size : size q (TyStruct tag) ≡ Some (suc (suc (suc (length ps))))
  pub small : suc (suc (suc (length ps))) < 2 ^ 63
  pub pointer : Ty
  pub old : Value
  pub holds : Holds q scope slots to (TyPointer pointer) old
  pub begins : (u : Store) → PointsTo q scope (pointed_slots slots holds.slot (next_block Frame s)) u start head (next_block Frame s)
  pub points : (u : Store) → PointsTo q scope (pointed_slots slots holds.slot (next_block Frame s)) u f tag (next_block Frame s)
  pub result : Ty
  pub parameters : List Ty
  pub is_piece : named q scope piece ≡ AFunction Native result parameters
  pub code_result : Ty
  pub code_parameters : Tys
  pub is_code : field q head code ≡ Some (0, TyCode code_result code_parameters)
  pub next_type : Ty
  pub below : Value
  pub is_next : field q head next ≡ Some (1, next_type)
  pub is_lower : (u : Store) → value (at q scope (pointed_slots slots holds.slot (next_block Frame s)) u) lower ≡ Gives below
  pub fits : assigned next_type below ≡ Gives p

-- the start frame of a call holds the values of the arguments; or the first one that faults does
pub record CallsAreFramed : Type 0 where
  pub made : (q : Program) (w : World) (fn : Text) (g : Function) (body : Stmts) (below : List (CallFrame Point)) → function_named q fn ≡ Some g → (k : ℕ) (scope : Scope) (n : ℕ) (rest : Stmts) (slots : List Slot) (s : Store) (to tag head code next piece : Text) (start f lower : Expr) (ps : List Give) (p : Value)
      → (c : CallMade q g body k scope n rest slots s to tag head code next piece start f lower ps p) → (vs : List Value) → Giving q scope (pointed_slots slots c.holds.slot (next_block Frame s)) tag s 3 ps vs
      → Walk q w.trace (3 + length ps) (at_line w fn below k (AndStmt c.line.statement (before (fills_call start f code next piece lower ps) rest)) slots s)
      (at_line w fn below (suc (suc (suc k)) + length ps) rest (pointed_slots slots c.holds.slot (next_block Frame s)) (alloc Frame (frame_cells (record { piece = piece; values = vs }) p Unset) s))
  pub faults : (q : Program) (w : World) (fn : Text) (g : Function) (body : Stmts) (below : List (CallFrame Point)) → function_named q fn ≡ Some g → (k : ℕ) (scope : Scope) (n : ℕ) (rest : Stmts) (slots : List Slot) (s : Store) (to tag head code next piece : Text) (start f lower : Expr) (ps : List Give) (p : Value)
      → (c : CallMade q g body k scope n rest slots s to tag head code next piece start f lower ps p) → (fault : Fault) → GivingFaults q scope (pointed_slots slots c.holds.slot (next_block Frame s)) tag s fault 3 ps
      → FaultsAfter q w.trace fn fault (at_line w fn below k (AndStmt c.line.statement (before (fills_call start f code next piece lower ps) rest)) slots s)

-- a piece is left: the frame below is on top, with the value, and its piece is entered; or nothing runs
pub record PiecesReturn (q : Program) (w : World) (fn : Text) (g : Function) (body : Stmts) (p0 r0 k0 : Value) (k : ℕ) (scope : Scope) (n : ℕ) (rest : Stmts) (slots : List Slot) (s : Store) (next : Text) : Type 0 where
  pub goes : (l : LineAt g body k scope n (Return (Some (ENamed next))) rest) (t : Ty) (b : ℕ) → Holds q scope slots next (TyPointer t) (At Frame b 0)
      → (f : Saved) (fs : List Saved) (lower v : Value) (owned : List ℕ) → Top s.frames f fs b lower v owned → (leader : Function) → IsPiece q f.piece leader → AreRegisters leader 0 (variables leader)
      → Rise q w.trace 4 (1 + call_cells q leader) (at_line w fn (driving p0 r0 k0 ∷ []) k (AndStmt l.statement rest) slots s) (entered q w s leader (register_slots (length (variables leader)) (At Frame b 0 ∷ [])) p0 r0 (At Frame b 0))
  pub ends : (l : LineAt g body k scope n (Return (Some (ENamed next))) rest) (t : Ty) → Holds q scope slots next (TyPointer t) Null
      → Finishes q w.trace 3 (at_line w fn (driving p0 r0 k0 ∷ []) k (AndStmt l.statement rest) slots s) (idle w s)
  pub gives : (tag : Text) (e : Expr) (l : LineAt g body k scope n (patches next e) (AndStmt (Return (Some (ENamed next))) rest)) (u : Ty) (b : ℕ) → Holds q scope slots next (TyPointer (TyStruct tag)) (At Frame b 0) → IsStruct q tag (head_fields u [])
      → (f : Saved) (fs : List Saved) (lower old : Value) (owned : List ℕ) → Top s.frames f fs b lower old owned → (v v' : Value) → value (at q scope slots s) e ≡ Gives v → assigned u v ≡ Gives v'
      → (leader : Function) → IsPiece q f.piece leader → AreRegisters leader 0 (variables leader)
      → Rise q w.trace (2 + 4) (2 + (1 + call_cells q leader)) (at_line w fn (driving p0 r0 k0 ∷ []) k (AndStmt l.statement (AndStmt (Return (Some (ENamed next))) rest)) slots s)
      (entered q w (patched s b f lower v') leader (register_slots (length (variables leader)) (At Frame b 0 ∷ [])) p0 r0 (At Frame b 0))
      × Top (patched s b f lower v').frames f fs b lower v' owned
  pub gives_none : (e : Expr) (l : LineAt g body k scope n (patches next e) (AndStmt (Return (Some (ENamed next))) rest)) (t : Ty) → Holds q scope slots next (TyPointer t) Null
      → Finishes q w.trace (1 + 3) (at_line w fn (driving p0 r0 k0 ∷ []) k (AndStmt l.statement (AndStmt (Return (Some (ENamed next))) rest)) slots s) (idle w s)

abbrev pub PiecesAreLeft : Type 0
PiecesAreLeft =
    (q : Program) → DriverFacts q → (w : World) (fn : Text) (g : Function) (body : Stmts) → function_named q fn ≡ Some g → g.result ≡ any_pointer → (p0 r0 k0 : Value) (k : ℕ) (scope : Scope) (n : ℕ) (rest : Stmts) (slots : List Slot) (s : Store) → AllRegisters slots → (next : Text)
    → PiecesReturn q w fn g body p0 r0 k0 k scope n rest slots s next

-- a line faults, also a wait that the agenda refuses; and a section is submitted
pub record LinesFault (q : Program) (w : World) (fn : Text) (g : Function) (body : Stmts) (below : List (CallFrame Point)) (k : ℕ) (scope : Scope) (n : ℕ) (rest : Stmts) (slots : List Slot) (s : Store) (x : Text) (b : ℕ) : Type 0 where
  pub faults : (y : Stmt) (l : LineAt g body k scope n y rest) → standing y ≡ Simple y → (fault : Fault) → simple_act (at q scope slots s) g.result y ≡ Faults fault
      → next (callbacks q) (at_line w fn below k (AndStmt l.statement rest) slots s) ≡ Some (ends (Failed fault (before_underscores fn)) (at_line w fn below k (AndStmt l.statement rest) slots s))
  pub waits : (e : Expr) (l : LineAt g body k scope n (waits e x) rest) → named q scope (codes "rt_wait") ≡ NotMeant → (u : Value) (c : ℕ) → value (at q scope slots s) e ≡ Gives u → at_type TyCondvar u ≡ Gives (Cond c)
      → (fault : Fault) → wait c (CallWith drive_name (At Frame b 0)) w.agenda ≡ Err fault
      → next (callbacks q) (at_line w fn below k (AndStmt l.statement rest) slots s) ≡ Some (ends (Failed fault (before_underscores fn)) (at_line w fn below k (AndStmt l.statement rest) slots s))
  pub sleeps : (e : Expr) (l : LineAt g body k scope n (sleeps e x) rest) → named q scope (codes "rt_sleep") ≡ NotMeant → (u : Value) (z : ℤ) → value (at q scope slots s) e ≡ Gives u → at_type (TyInt Long) u ≡ Gives (Whole Long z)
      → (fault : Fault) → sleep z (CallWith drive_name (At Frame b 0)) w.agenda ≡ Err fault
      → next (callbacks q) (at_line w fn below k (AndStmt l.statement rest) slots s) ≡ Some (ends (Failed fault (before_underscores fn)) (at_line w fn below k (AndStmt l.statement rest) slots s))
  pub detaches : (f : Text) (es : Exprs) (l : LineAt g body k scope n (detaches x f es) rest) → named q scope (codes "rt_detach") ≡ NotMeant → (r : Ty) (ps : List Ty) → named q scope f ≡ AFunction Detached r ps
      → (vs ws : List Value) → values (at q scope slots s) es ≡ Gives vs → all_taken (detach_takes (function_named q f)) (Code f ∷ vs) ≡ Gives (Code f ∷ ws)
      → (a : Agenda Callback) (jobs : List Job) (marks : List Mark)
      → submits (trees q) f ws (CallWith drive_name (At Frame b 0)) (at_line w fn below k (AndStmt l.statement rest) slots s) ≡ Gives (at_line (record w { agenda = a; jobs = jobs; trace = marks }) fn below k (AndStmt l.statement rest) slots s)
      → next (callbacks q) (at_line w fn below k (AndStmt l.statement rest) slots s) ≡ Some (at_line (record w { agenda = a; jobs = jobs; trace = marks }) fn below (suc k) rest slots s)

abbrev pub LinesFaultAlike : Type 0
LinesFaultAlike =
    (q : Program) (w : World) (fn : Text) (g : Function) (body : Stmts) (below : List (CallFrame Point)) → function_named q fn ≡ Some g → (k : ℕ) (scope : Scope) (n : ℕ) (rest : Stmts) (slots : List Slot) (s : Store) (x : Text) (t : Ty) (b : ℕ)
    → Holds q scope slots x t (At Frame b 0) → DriverMeant q scope → LinesFault q w fn g body below k scope n rest slots s x b
