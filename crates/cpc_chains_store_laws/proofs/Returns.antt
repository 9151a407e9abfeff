-- A piece is left: a value is written to the frame below, the frame below is given to the driver, and its piece is entered; or nothing runs.
use Rattle.std.proofs.Common.{◌≡◌, ℕ, suc, ◌+◌, List, [], ◌∷◌, length, Some, refl, ap}
use Rattle.cpc_base.specs.Bytes.{Text}
use Rattle.cpc_tree.specs.Syntax.{Ty, TyPointer, TyStruct, Expr, ENamed, Stmt, Return, Stmts, AndStmt, Function, Program}
use Rattle.cpc_tree.specs.Typing.{Scope, function_named}
use Rattle.cpc_tree.specs.Registers.{variables}
use Rattle.cpc_store.specs.declared.values.Class.TheVariants.{Frame}
use Rattle.cpc_store.specs.Store.{Value, Null, At, Store}
use Rattle.cpc_meaning.specs.Answer.{Gives}
use Rattle.cpc_meaning.specs.Eval.{Slot, value, assigned}
use Rattle.cpc_chains_store_laws.specs.Chains.{Saved, Top}
use Rattle.cpc_convert_flat_laws.specs.Structs.{IsStruct}
use Rattle.cpc_convert_flat_laws.specs.Flat.{LineAt}
use Rattle.cpc_convert_flat_laws.specs.Locals.{at, Holds, register_slots, AreRegisters}
use Rattle.cpc_convert_flat_laws.specs.Boxes.{AllRegisters}
use Rattle.cpc_chains_store_laws.specs.Driver.{any_pointer, head_fields, patches, DriverFacts, driving, entered, patched, IsPiece}
use Rattle.cpc_meaning_laws.specs.Cell.Cells.{call_cells}
use Rattle.cpc_convert_flat_laws.specs.Walks.{World, Rise, Walk, Finishes, at_line, idle}
use Rattle.cpc_chains_store_laws.proofs.Chains.{chain_patched}
use Rattle.cpc_convert_flat_laws.proofs.Fields.{held}
use Rattle.cpc_convert_flat_laws.proofs.Walks.{rise_append, rise_cons, finishes_after}
use Rattle.cpc_convert_flat_laws.proofs.AtLine.{line_passed}
use Rattle.cpc_convert_flat_laws.proofs.Boxes.{free_all}
use Rattle.cpc_chains_store_laws.proofs.Patches.{patch_none, patch_frame}
use Rattle.cpc_chains_store_laws.proofs.Pieces.{registers_call, return_step, drive_goes_on, drive_finishes}

module _ (q : Program) (facts : DriverFacts q) (w : World) (fn : Text) (g : Function) (body : Stmts) (is_g : function_named q fn ≡ Some g) (gives_pointer : g.result ≡ any_pointer) (p0 r0 k0 : Value) (k : ℕ) (scope : Scope) (n : ℕ) (rest : Stmts) (slots : List Slot) (s : Store) (all : AllRegisters slots) (next : Text) where
  -- `return next;`
  abbrev pub gives_next : Stmt
  gives_next = Return (Some (ENamed next))

  -- the frame below is given back to the driver: its piece is entered
  pub goes_below : (l : LineAt g body k scope n gives_next rest) (t : Ty) (b : ℕ) → Holds q scope slots next (TyPointer t) (At Frame b 0)
      → (f : Saved) (fs : List Saved) (lower v : Value) (owned : List ℕ) → Top s.frames f fs b lower v owned → (leader : Function) → IsPiece q f.piece leader → AreRegisters leader 0 (variables leader)
      → Rise q w.trace 4 (1 + call_cells q leader) (at_line w fn (driving p0 r0 k0 ∷ []) k (AndStmt l.statement rest) slots s) (entered q w s leader (register_slots (length (variables leader)) (At Frame b 0 ∷ [])) p0 r0 (At Frame b 0))
  goes_below l t b h f fs lower v owned top leader is_leader registers =
      rise_cons 3 1 (call_cells q leader) _ _ _
      (return_step q w fn g body (driving p0 r0 k0) [] is_g k scope n rest slots s (ENamed next) l (At Frame b 0) (At Frame b 0) s (held q scope slots s next (TyPointer t) (At Frame b 0) h) (ap (λ u. assigned u (At Frame b 0)) gives_pointer) (free_all slots s all))
      (drive_goes_on q facts w s f fs b lower v owned top leader is_leader p0 r0 k0 (register_slots (length (variables leader)) (At Frame b 0 ∷ [])) s (registers_call q leader (At Frame b 0 ∷ []) s registers))

  -- there is none: nothing runs
  pub ends_thread : (l : LineAt g body k scope n gives_next rest) (t : Ty) → Holds q scope slots next (TyPointer t) Null
      → Finishes q w.trace 3 (at_line w fn (driving p0 r0 k0 ∷ []) k (AndStmt l.statement rest) slots s) (idle w s)
  ends_thread l t h =
      finishes_after 1 2 _ _ _
      (return_step q w fn g body (driving p0 r0 k0) [] is_g k scope n rest slots s (ENamed next) l Null Null s (held q scope slots s next (TyPointer t) Null h) (ap (λ u. assigned u Null) gives_pointer) (free_all slots s all))
      (drive_finishes q facts w s p0 r0 k0)

-- the same with a value, which is written to the frame below first
module _ (q : Program) (facts : DriverFacts q) (w : World) (fn : Text) (g : Function) (body : Stmts) (is_g : function_named q fn ≡ Some g) (gives_pointer : g.result ≡ any_pointer) (p0 r0 k0 : Value) (k : ℕ) (scope : Scope) (n : ℕ) (rest : Stmts) (slots : List Slot) (s : Store) (all : AllRegisters slots) (next : Text) (e : Expr) where
  pub value_below : (l : LineAt g body k scope n (patches next e) (AndStmt (Return (Some (ENamed next))) rest)) (tag : Text) (u : Ty) (b : ℕ) → Holds q scope slots next (TyPointer (TyStruct tag)) (At Frame b 0) → IsStruct q tag (head_fields u [])
      → (f : Saved) (fs : List Saved) (lower old : Value) (owned : List ℕ) → Top s.frames f fs b lower old owned → (v v' : Value) → value (at q scope slots s) e ≡ Gives v → assigned u v ≡ Gives v'
      → (leader : Function) → IsPiece q f.piece leader → AreRegisters leader 0 (variables leader)
      → Rise q w.trace (2 + 4) (2 + (1 + call_cells q leader)) (at_line w fn (driving p0 r0 k0 ∷ []) k (AndStmt l.statement (AndStmt (Return (Some (ENamed next))) rest)) slots s)
      (entered q w (patched s b f lower v') leader (register_slots (length (variables leader)) (At Frame b 0 ∷ [])) p0 r0 (At Frame b 0))
      × Top (patched s b f lower v').frames f fs b lower v' owned
  value_below l tag u b h struct f fs lower old owned top v v' is_value fits leader is_leader registers =
      let below = driving p0 r0 k0 ∷ [] in
      let last = AndStmt (Return (Some (ENamed next))) rest in
      let s' = patched s b f lower v' in
      let top' = chain_patched s.frames f fs b lower old v' owned top in
      let st = line_passed g body k scope n (patches next e) last l in
      let l' : LineAt g body (suc k) scope n (Return (Some (ENamed next))) rest = record { statement = Return (Some (ENamed next)); stands = st; is_bare = refl; is_line = refl } in (
        rise_append 2 4 2 (1 + call_cells q leader) _ _ _ (patch_frame q w fn g body below is_g k scope n last slots s next tag e l u b h struct f fs lower old owned top v v' is_value fits)
            (goes_below q facts w fn g body is_g gives_pointer p0 r0 k0 (suc k) scope n rest slots s' all next l' (TyStruct tag) b h f fs lower v' owned top' leader is_leader registers),
        top',
      )

  pub value_ends : (l : LineAt g body k scope n (patches next e) (AndStmt (Return (Some (ENamed next))) rest)) (t : Ty) → Holds q scope slots next (TyPointer t) Null
      → Finishes q w.trace (1 + 3) (at_line w fn (driving p0 r0 k0 ∷ []) k (AndStmt l.statement (AndStmt (Return (Some (ENamed next))) rest)) slots s) (idle w s)
  value_ends l t h =
      let below = driving p0 r0 k0 ∷ [] in
      let last = AndStmt (Return (Some (ENamed next))) rest in
      let st = line_passed g body k scope n (patches next e) last l in
      let l' : LineAt g body (suc k) scope n (Return (Some (ENamed next))) rest = record { statement = Return (Some (ENamed next)); stands = st; is_bare = refl; is_line = refl } in
      finishes_after 1 3 _ _ _ (patch_none q w fn g body below is_g k scope n last slots s next e l (TyPointer t) h)
      (ends_thread q facts w fn g body is_g gives_pointer p0 r0 k0 (suc k) scope n rest slots s all next l' t h)
