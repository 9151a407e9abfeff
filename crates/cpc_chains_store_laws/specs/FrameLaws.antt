-- The laws of frames and the driver, as statements: what a piece of a flat body does in so many steps.
use Rattle.std.specs.Prelude.{◌≡◌, ℕ, suc, ◌+◌, ◌<◌, ◌^◌, List, [], ◌∷◌, ◌++◌, length, map, slice_get, Some, codes}
use Rattle.cpc_base.specs.Bytes.{Text}
use Rattle.cpc_num.specs.declared.kinds.Kind.TheVariants.{Int}
use Rattle.cpc_tree.specs.declared.program.Mode.TheVariants.{Native}
use Rattle.cpc_tree.specs.Syntax.{Ty, TyInt, TyPointer, TyCode, TyStruct, Tys, Expr, Stmts, AndStmt, Function, Program}
use Rattle.cpc_tree.specs.Typing.{Scope, ALocal, NotMeant, AFunction, named, function_named, field, size}
use Rattle.cpc_tree.specs.Points.{Point}
use Rattle.cpc_store.specs.declared.values.Class.TheVariants.{Frame}
use Rattle.cpc_store.specs.Store.{Value, Unset, Null, At, Store, next_block, alloc, cells_of}
use Rattle.cpc_meaning.specs.Answer.{Gives}
use Rattle.cpc_meaning.specs.Agenda.{Due}
use Rattle.cpc_meaning.specs.Eval.{Slot, Register, value, assigned}
use Rattle.cpc_meaning.specs.Slots.{call_slots}
use Rattle.cpc_meaning.specs.Plain.{Frame as CallFrame}
use Rattle.cpc_meaning.specs.Events.{Callback, CallWith}
use Rattle.cpc_chains_store_laws.specs.Chains.{Saved, frame_cells, Top}
use Rattle.cpc_convert_flat_laws.specs.Structs.{IsStruct}
use Rattle.cpc_convert_flat_laws.specs.Flat.{before, Stands, LineAt}
use Rattle.cpc_meaning_laws.specs.Cell.Cells.{call_cells}
use Rattle.cpc_convert_flat_laws.specs.Walks.{World, Rise, Walk, Finishes, at_line, running, idle}
use Rattle.cpc_convert_flat_laws.specs.Locals.{at, PointsTo, Holds, Save, Saving, Load, loads_one, Loading, blank}
use Rattle.cpc_chains_store_laws.specs.Frames.{asks_block, fills_frame, pointed_slots}
use Rattle.cpc_chains_store_laws.specs.Driver.{drive_name, head_fields, DriverFacts, with_round, driving, entered, patched, IsPiece, patches}

-- a new frame of a piece, written through a pointer to it and one to what it begins as, over the frame below, with the values of some variables: three steps, and one for each variable
abbrev pub FramesAreMade : Type 0
FramesAreMade =
    (q : Program) (w : World) (fn : Text) (g : Function) (body : Stmts) (below : List (CallFrame Point)) (is_g : function_named q fn ≡ Some g) (k : ℕ) (scope : Scope) (n : ℕ) (rest : Stmts) (slots : List Slot) (s : Store)
    → (to tag head code next piece : Text) (start f lower : Expr) (ps : List Save) (vs : List Value) (l : LineAt g body k scope n (asks_block to tag) (before (fills_frame start f code next piece lower ps) rest))
    → named q scope (codes "rt_frame") ≡ NotMeant → size q (TyStruct tag) ≡ Some (suc (suc (suc (length ps)))) → suc (suc (suc (length ps))) < 2 ^ 63
    → (t : Ty) (old : Value) (h : Holds q scope slots to (TyPointer t) old)
    → ((u : Store) → PointsTo q scope (pointed_slots slots h.slot (next_block Frame s)) u start head (next_block Frame s)) → ((u : Store) → PointsTo q scope (pointed_slots slots h.slot (next_block Frame s)) u f tag (next_block Frame s))
    → (r r' : Ty) (params : List Ty) (params' : Tys) → named q scope piece ≡ AFunction Native r params → field q head code ≡ Some (0, TyCode r' params')
    → (t' : Ty) (v p : Value) → field q head next ≡ Some (1, t') → ((u : Store) → value (at q scope (pointed_slots slots h.slot (next_block Frame s)) u) lower ≡ Gives v) → assigned t' v ≡ Gives p
    → Saving q scope (pointed_slots slots h.slot (next_block Frame s)) tag 3 ps vs
    → Walk q w.trace (suc (suc (suc (length ps)))) (at_line w fn below k (AndStmt l.statement (before (fills_frame start f code next piece lower ps) rest)) slots s)
    (at_line w fn below (suc (suc (suc k)) + length ps) rest (pointed_slots slots h.slot (next_block Frame s)) (alloc Frame (frame_cells (record { piece = piece; values = vs }) p Unset) s))

-- the fields of a frame are loaded into new locals, with as many live cells as before: a step for each
abbrev pub FramesAreTaken : Type 0
FramesAreTaken =
    (q : Program) (w : World) (fn : Text) (g : Function) (body : Stmts) (below : List (CallFrame Point)) (is_g : function_named q fn ≡ Some g) (s : Store) (tag e : Text) (b : ℕ) (cells : List Value)
    → cells_of Frame b s ≡ Some cells → (k : ℕ) (scope : Scope) (n : ℕ) (rest : Stmts) (done more : List Slot) (i : ℕ) (ls : List Load) (vs : List Value)
    → length done ≡ n → named q scope e ≡ ALocal i (TyPointer (TyStruct tag)) → slice_get done i ≡ Some (Register (At Frame b 0)) → Loading q tag e cells ls vs
    → Stands g body k scope n (before (map (loads_one e) ls) rest)
    → Rise q w.trace (length ls) 0 (at_line w fn below k (before (map (loads_one e) ls) rest) (done ++ blank (length ls) more) s) (at_line w fn below (k + length ls) rest ((done ++ map Register vs) ++ more) s)

-- a value is written to the frame below, if there is one: two steps, or one
pub record FramesArePatched : Type 0 where
  pub none : (q : Program) (w : World) (fn : Text) (g : Function) (body : Stmts) (below : List (CallFrame Point)) (is_g : function_named q fn ≡ Some g) (k : ℕ) (scope : Scope) (n : ℕ) (rest : Stmts) (slots : List Slot) (s : Store)
      → (next : Text) (e : Expr) (l : LineAt g body k scope n (patches next e) rest) → (t : Ty) → Holds q scope slots next t Null
      → Walk q w.trace 1 (at_line w fn below k (AndStmt l.statement rest) slots s) (at_line w fn below (suc k) rest slots s)
  pub one : (q : Program) (w : World) (fn : Text) (g : Function) (body : Stmts) (below : List (CallFrame Point)) (is_g : function_named q fn ≡ Some g) (k : ℕ) (scope : Scope) (n : ℕ) (rest : Stmts) (slots : List Slot) (s : Store)
      → (next tag : Text) (e : Expr) (l : LineAt g body k scope n (patches next e) rest) → (u : Ty) (b : ℕ) → Holds q scope slots next (TyPointer (TyStruct tag)) (At Frame b 0) → IsStruct q tag (head_fields u [])
      → (f : Saved) (fs : List Saved) (lower old : Value) (owned : List ℕ) → Top s.frames f fs b lower old owned → (v v' : Value) → value (at q scope slots s) e ≡ Gives v → assigned u v ≡ Gives v'
      → Walk q w.trace 2 (at_line w fn below k (AndStmt l.statement rest) slots s) (at_line w fn below (suc k) rest slots (patched s b f lower v'))

-- the driver: from a callback to the piece of its frame, from a frame that a piece gave to its piece, and from null to nothing
pub record Drives : Type 0 where
  pub begins : (q : Program) (facts : DriverFacts q) (w : World) (s : Store) (f : Saved) (fs : List Saved) (b : ℕ) (next v : Value) (owned : List ℕ) (top : Top s.frames f fs b next v owned) (piece : Function) (is_piece : IsPiece q f.piece piece)
      (ds : List (Due Callback)) (x r : Value) → w.agenda.round ≡ record { item = CallWith drive_name (At Frame b 0); result = x } ∷ ds → assigned (TyInt Int) x ≡ Gives r
      → (slots : List Slot) (t : Store) → call_slots q piece (At Frame b 0 ∷ []) (patched s b f next r) ≡ Gives (slots, t)
      → Rise q w.trace 5 (3 + call_cells q piece) (idle w s) (entered q (with_round w ds) t piece slots (At Frame b 0) r (At Frame b 0))
  pub goes_on : (q : Program) (facts : DriverFacts q) (w : World) (s : Store) (f : Saved) (fs : List Saved) (b : ℕ) (next v : Value) (owned : List ℕ) (top : Top s.frames f fs b next v owned) (piece : Function) (is_piece : IsPiece q f.piece piece)
      (p r k : Value) (slots : List Slot) (t : Store) → call_slots q piece (At Frame b 0 ∷ []) s ≡ Gives (slots, t)
      → Rise q w.trace 3 (call_cells q piece) (running w s (driving p r k ∷ []) (Some (At Frame b 0))) (entered q w t piece slots p r (At Frame b 0))
  pub finishes : (q : Program) (facts : DriverFacts q) (w : World) (s : Store) (p r k : Value) → Finishes q w.trace 2 (running w s (driving p r k ∷ []) (Some Null)) (idle w s)
