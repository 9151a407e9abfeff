-- The laws of whole pieces, as statements: how one begins, goes to a leader, and makes callbacks ready or wait.
use Rattle.std.specs.Prelude.{◌≡◌, ℕ, suc, ◌+◌, ◌<◌, ◌^◌, false, ℤ, List, [], ◌∷◌, ◌++◌, length, map, slice_get, slice_set, bytes_eq, Some, None, Ok, codes}
use Rattle.cpc_base.specs.Bytes.{Text}
use Rattle.cpc_num.specs.declared.kinds.Kind.TheVariants.{Int, Long}
use Rattle.cpc_tree.specs.declared.program.Mode.TheVariants.{Native}
use Rattle.cpc_tree.specs.Syntax.{Ty, TyInt, TyCondvar, TyPointer, TyCode, TyStruct, Tys, Expr, ENamed, Return, Stmts, AndStmt, Variable, Function, Program}
use Rattle.cpc_tree.specs.Typing.{Scope, ALocal, NotMeant, AFunction, named, function_named, field, size}
use Rattle.cpc_tree.specs.Points.{Point}
use Rattle.cpc_tree.specs.Registers.{variables}
use Rattle.cpc_tree.specs.Trace.{Sleeping, Waiting, Awaiting}
use Rattle.cpc_store.specs.declared.values.Class.TheVariants.{Frame}
use Rattle.cpc_store.specs.Store.{Value, Unset, Null, Whole, At, Cond, Store, blocks, with_blocks, next_block, alloc, cells_of}
use Rattle.cpc_meaning.specs.Answer.{Gives}
use Rattle.cpc_meaning.specs.Agenda.{Agenda, ready_one, sleep, io, wait}
use Rattle.cpc_meaning.specs.Eval.{Slot, Register, value, assigned, at_type}
use Rattle.cpc_meaning.specs.Plain.{Frame as CallFrame}
use Rattle.cpc_meaning.specs.Machine.{next, direction_of}
use Rattle.cpc_meaning.specs.Events.{Callback, CallWith, callbacks}
use Rattle.cpc_convert_flat_laws.specs.Boxes.{AllRegisters}
use Rattle.cpc_chains_store_laws.specs.Chains.{Saved, frame_cells, Chain, Top}
use Rattle.cpc_chains_store_laws.specs.Driver.{drive_name, any_pointer, DriverFacts, driving, entered, IsPiece, with_agenda, with_marks, DriverMeant, readies, sleeps, waits, awaits, spawns}
use Rattle.cpc_convert_flat_laws.specs.Flat.{before, Stands, LineAt}
use Rattle.cpc_convert_flat_laws.specs.Locals.{at, Holds, Save, Saving, Load, Loading, blank, register_slots, AreRegisters}
use Rattle.cpc_chains_store_laws.specs.Frames.{asks_block, fills_frame, frame_through, pointed_slots, opens_frame, takes_frame, taken_scope}
use Rattle.cpc_meaning_laws.specs.Cell.Cells.{call_cells}
use Rattle.cpc_convert_flat_laws.specs.Walks.{World, Rise, Walk, at_line, running}

-- a piece takes its frame: its locals have the values of the fields
abbrev pub FramesAreOpened : Type 0
FramesAreOpened =
    (q : Program) (w : World) (fn : Text) (g : Function) (body : Stmts) (below : List (CallFrame Point)) (is_g : function_named q fn ≡ Some g) (s : Store) (tag e k : Text) (b : ℕ) (cells : List Value) (live : cells_of Frame b s ≡ Some cells)
    (j : ℕ) (scope : Scope) (n : ℕ) (rest : Stmts) (ls : List Load) (ds : List Variable) (st : Stands g body j scope n (opens_frame k e tag ls ds rest))
    (done more : List Slot) (i : ℕ) (t : Ty) (vs : List Value) (len : length done ≡ n) (apart : bytes_eq e k ≡ false) (is_k : named q scope k ≡ ALocal i (TyPointer t)) (is_slot : slice_get done i ≡ Some (Register (At Frame b 0))) (loading : Loading q tag e cells ls vs)
    → Rise q w.trace (suc (length ls + length ds)) 0 (at_line w fn below j (opens_frame k e tag ls ds rest) (done ++ Register Unset ∷ blank (length ls) more) s)
    (at_line w fn below (suc j + length ls + length ds) rest (((done ++ Register (At Frame b 0) ∷ []) ++ map Register vs) ++ more) s)

-- and gives it back: the block is freed
abbrev pub PiecesBegin : Type 0
PiecesBegin =
    (q : Program) (w : World) (fn : Text) (g : Function) (body : Stmts) (below : List (CallFrame Point)) (is_g : function_named q fn ≡ Some g) (s : Store) (tag e k : Text) (b : ℕ) (cells : List Value) (live : cells_of Frame b s ≡ Some cells)
    (j : ℕ) (scope : Scope) (n : ℕ) (rest : Stmts) (ls : List Load) (ds : List Variable) (st : Stands g body j scope n (takes_frame k e tag ls ds rest))
    (done more : List Slot) (i : ℕ) (t : Ty) (vs : List Value) → length done ≡ n → bytes_eq e k ≡ false → named q scope k ≡ ALocal i (TyPointer t) → slice_get done i ≡ Some (Register (At Frame b 0)) → Loading q tag e cells ls vs
    → named q (taken_scope scope n e tag ls ds) k ≡ ALocal i (TyPointer t) → named q (taken_scope scope n e tag ls ds) (codes "rt_frame_free") ≡ NotMeant
    → Walk q w.trace (suc (length ls + length ds) + 1) (at_line w fn below j (takes_frame k e tag ls ds rest) (done ++ Register Unset ∷ blank (length ls) more) s)
    (at_line w fn below (suc (suc j + length ls + length ds)) rest (((done ++ Register (At Frame b 0) ∷ []) ++ map Register vs) ++ more) (with_blocks Frame (slice_set (blocks Frame s) b None) s))

-- a piece goes to a leader: the leader's frame is on top of the chain, and its piece is entered
abbrev pub LeadersAreEntered : Type 0
LeadersAreEntered =
    (q : Program) (facts : DriverFacts q) (w : World) (fn : Text) (g : Function) (body : Stmts) (is_g : function_named q fn ≡ Some g) (gives_pointer : g.result ≡ any_pointer) (p0 r0 k0 : Value)
    (k : ℕ) (scope : Scope) (n : ℕ) (rest : Stmts) (slots : List Slot) (s : Store) (all : AllRegisters slots) (to tag head code next piece : Text) (lower : Expr) (ps : List Save) (vs : List Value)
    (fs : List Saved) (p : Value) (owned : List ℕ) → Chain s.frames fs p owned
    → (l : LineAt g body k scope n (asks_block to tag) (before (fills_frame (ENamed to) (frame_through to tag) code next piece lower ps) (AndStmt (Return (Some (ENamed to))) rest)))
    → named q scope (codes "rt_frame") ≡ NotMeant → size q (TyStruct tag) ≡ Some (suc (suc (suc (length ps)))) → suc (suc (suc (length ps))) < 2 ^ 63
    → (old : Value) (h : Holds q scope slots to (TyPointer (TyStruct head)) old)
    → (r r' : Ty) (params : List Ty) (params' : Tys) → named q scope piece ≡ AFunction Native r params → field q head code ≡ Some (0, TyCode r' params')
    → (t' : Ty) (v : Value) → field q head next ≡ Some (1, t') → ((u : Store) → value (at q scope (pointed_slots slots h.slot (next_block Frame s)) u) lower ≡ Gives v) → assigned t' v ≡ Gives p
    → Saving q scope (pointed_slots slots h.slot (next_block Frame s)) tag 3 ps vs
    → (leader : Function) → IsPiece q piece leader → AreRegisters leader 0 (variables leader)
    → Rise q w.trace (suc (suc (suc (length ps))) + 4) (suc (suc (suc (length ps))) + (1 + call_cells q leader)) (at_line w fn (driving p0 r0 k0 ∷ []) k (AndStmt l.statement (before (fills_frame (ENamed to) (frame_through to tag) code next piece lower ps) (AndStmt (Return (Some (ENamed to))) rest))) slots s)
    (entered q w (alloc Frame (frame_cells (record { piece = piece; values = vs }) p Unset) s) leader (register_slots (length (variables leader)) (At Frame (next_block Frame s) 0 ∷ [])) p0 r0 (At Frame (next_block Frame s) 0))
    × Top (alloc Frame (frame_cells (record { piece = piece; values = vs }) p Unset) s).frames (record { piece = piece; values = vs }) fs (next_block Frame s) p Unset owned

-- a spawner makes the first frame of a thread and a callback for it, which is ready
abbrev pub SpawnersSpawn : Type 0
SpawnersSpawn =
    (q : Program) (w : World) (fn : Text) (g : Function) (body : Stmts) (frame : CallFrame Point) (others : List (CallFrame Point)) (is_g : function_named q fn ≡ Some g) (scope : Scope) (n : ℕ) (done : List Slot) (s : Store)
    (e tag code next piece : Text) (ps : List Save) (st : Stands g body 0 scope n (spawns e tag code next piece ps)) (vs : List Value) → length done ≡ n → AllRegisters (done ++ Register Unset ∷ [])
    → named q (record { called = e; type = TyPointer (TyStruct tag); slot = n } ∷ scope) (codes "rt_frame") ≡ NotMeant → named q (record { called = e; type = TyPointer (TyStruct tag); slot = n } ∷ scope) (codes "rt_ready") ≡ NotMeant
    → DriverMeant q (record { called = e; type = TyPointer (TyStruct tag); slot = n } ∷ scope) → size q (TyStruct tag) ≡ Some (suc (suc (suc (length ps)))) → suc (suc (suc (length ps))) < 2 ^ 63
    → (r r' : Ty) (params : List Ty) (params' : Tys) → named q (record { called = e; type = TyPointer (TyStruct tag); slot = n } ∷ scope) piece ≡ AFunction Native r params → field q tag code ≡ Some (0, TyCode r' params')
    → (t' : Ty) → field q tag next ≡ Some (1, TyPointer t') → Saving q (record { called = e; type = TyPointer (TyStruct tag); slot = n } ∷ scope) (pointed_slots (done ++ Register Unset ∷ []) n (next_block Frame s)) tag 3 ps vs
    → Walk q w.trace (suc (suc (suc (suc (length ps))) + 2)) (at_line w fn (frame ∷ others) 0 (spawns e tag code next piece ps) (done ++ Register Unset ∷ []) s)
    (running (with_agenda w (ready_one (CallWith drive_name (At Frame (next_block Frame s) 0)) w.agenda)) (alloc Frame (frame_cells (record { piece = piece; values = vs }) Null Unset) s) (frame ∷ others) (Some Unset))

-- a frame is handed to the driver when it is ready, or when a wait ends; a wait leaves its mark
pub record CallbacksAreMade (q : Program) (w : World) (fn : Text) (g : Function) (body : Stmts) (below : List (CallFrame Point)) (k : ℕ) (scope : Scope) (n : ℕ) (rest : Stmts) (slots : List Slot) (s : Store) : Type 0 where
  pub ready : (x : Text) (l : LineAt g body k scope n (readies x) rest) → named q scope (codes "rt_ready") ≡ NotMeant → DriverMeant q scope → (t : Ty) (b : ℕ) → Holds q scope slots x t (At Frame b 0)
      → next (callbacks q) (at_line w fn below k (AndStmt l.statement rest) slots s) ≡ Some (at_line (with_agenda w (ready_one (CallWith drive_name (At Frame b 0)) w.agenda)) fn below (suc k) rest slots s)
  pub sleeps : (x : Text) (t : Ty) (b : ℕ) (h : Holds q scope slots x t (At Frame b 0)) (is_drive : DriverMeant q scope)
      (e : Expr) (l : LineAt g body k scope n (sleeps e x) rest) → named q scope (codes "rt_sleep") ≡ NotMeant → (u : Value) (z : ℤ) → value (at q scope slots s) e ≡ Gives u → at_type (TyInt Long) u ≡ Gives (Whole Long z)
      → (a : Agenda Callback) → sleep z (CallWith drive_name (At Frame b 0)) w.agenda ≡ Ok a
      → next (callbacks q) (at_line w fn below k (AndStmt l.statement rest) slots s) ≡ Some (at_line (with_marks w a (Sleeping z ∷ [])) fn below (suc k) rest slots s)
  pub waits : (x : Text) (t : Ty) (b : ℕ) (h : Holds q scope slots x t (At Frame b 0)) (is_drive : DriverMeant q scope)
      (e : Expr) (l : LineAt g body k scope n (waits e x) rest) → named q scope (codes "rt_wait") ≡ NotMeant → (u : Value) (c : ℕ) → value (at q scope slots s) e ≡ Gives u → at_type TyCondvar u ≡ Gives (Cond c)
      → (a : Agenda Callback) → wait c (CallWith drive_name (At Frame b 0)) w.agenda ≡ Ok a
      → next (callbacks q) (at_line w fn below k (AndStmt l.statement rest) slots s) ≡ Some (at_line (with_marks w a (Waiting c ∷ [])) fn below (suc k) rest slots s)
  pub awaits : (x : Text) (t : Ty) (b : ℕ) (h : Holds q scope slots x t (At Frame b 0)) (is_drive : DriverMeant q scope)
      (d e : Expr) (l : LineAt g body k scope n (awaits d e x) rest) → named q scope (codes "rt_io") ≡ NotMeant → (u v : Value) (fd way : ℤ) → value (at q scope slots s) d ≡ Gives u → at_type (TyInt Int) u ≡ Gives (Whole Int fd)
      → value (at q scope slots s) e ≡ Gives v → at_type (TyInt Int) v ≡ Gives (Whole Int way)
      → next (callbacks q) (at_line w fn below k (AndStmt l.statement rest) slots s) ≡ Some (at_line (with_marks w (io fd (direction_of way) (CallWith drive_name (At Frame b 0)) w.agenda) (Awaiting fd (direction_of way) ∷ [])) fn below (suc k) rest slots s)

abbrev pub CallbacksMade : Type 0
CallbacksMade =
    (q : Program) (w : World) (fn : Text) (g : Function) (body : Stmts) (below : List (CallFrame Point)) → function_named q fn ≡ Some g → (k : ℕ) (scope : Scope) (n : ℕ) (rest : Stmts) (slots : List Slot) (s : Store)
    → CallbacksAreMade q w fn g body below k scope n rest slots s
