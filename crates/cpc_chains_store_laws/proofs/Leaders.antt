-- A piece goes to a leader: it makes the leader's frame over the frames below, gives it to the driver, and the leader's piece is entered.
use Rattle.std.proofs.Common.{◌≡◌, ℕ, suc, ◌+◌, ◌<◌, ◌^◌, List, [], ◌∷◌, length, Some, refl, ap, codes}
use Rattle.cpc_base.specs.Bytes.{Text}
use Rattle.cpc_tree.specs.declared.program.Mode.TheVariants.{Native}
use Rattle.cpc_tree.specs.Syntax.{Ty, TyPointer, TyCode, TyStruct, Tys, Expr, ENamed, Stmt, Return, Stmts, AndStmt, Function, Program}
use Rattle.cpc_tree.specs.Typing.{Scope, NotMeant, AFunction, named, function_named, field, size}
use Rattle.cpc_tree.specs.Registers.{variables}
use Rattle.cpc_store.specs.declared.values.Class.TheVariants.{Frame}
use Rattle.cpc_store.specs.Store.{Value, Unset, At, Store, next_block, alloc}
use Rattle.cpc_meaning.specs.Answer.{Gives}
use Rattle.cpc_meaning.specs.Eval.{Slot, value, assigned}
use Rattle.cpc_chains_store_laws.specs.Chains.{Saved, frame_cells, Chain, Top}
use Rattle.cpc_convert_flat_laws.specs.Flat.{before, LineAt}
use Rattle.cpc_convert_flat_laws.specs.Locals.{at, Holds, Save, Saving, register_slots, AreRegisters}
use Rattle.cpc_chains_store_laws.specs.Frames.{asks_block, fills_frame, frame_through, pointed_slots}
use Rattle.cpc_convert_flat_laws.specs.Boxes.{AllRegisters}
use Rattle.cpc_chains_store_laws.specs.Driver.{any_pointer, DriverFacts, driving, entered, IsPiece}
use Rattle.cpc_meaning_laws.specs.Cell.Cells.{call_cells}
use Rattle.cpc_convert_flat_laws.specs.Walks.{World, Rise, at_line}
use Rattle.cpc_chains_store_laws.proofs.Chains.{chain_push}
use Rattle.cpc_convert_flat_laws.proofs.Fields.{named_pointer, cast_pointer, held}
use Rattle.cpc_convert_flat_laws.proofs.Walks.{rise_append, rise_cons}
use Rattle.cpc_chains_store_laws.proofs.Making.{makes_frame, past_made, holds_new}
use Rattle.cpc_convert_flat_laws.proofs.Boxes.{registers_set, free_all}
use Rattle.cpc_chains_store_laws.proofs.Pieces.{registers_call, return_step, drive_goes_on}

module _ (q : Program) (facts : DriverFacts q) (w : World) (fn : Text) (g : Function) (body : Stmts) (is_g : function_named q fn ≡ Some g) (gives_pointer : g.result ≡ any_pointer) (p0 r0 k0 : Value) (k : ℕ) (scope : Scope) (n : ℕ) (rest : Stmts) (slots : List Slot) (s : Store) (all : AllRegisters slots) (to tag head code next piece : Text) (lower : Expr) (ps : List Save) (vs : List Value) where
  -- `return to;`
  abbrev pub gives_it : Stmt
  gives_it = Return (Some (ENamed to))

  -- the store with the new frame
  abbrev pub with_frame : Value → Store
  with_frame p = alloc Frame (frame_cells (record { piece = piece; values = vs }) p Unset) s

  pub leader_walk : (fs : List Saved) (p : Value) (owned : List ℕ) → Chain s.frames fs p owned
      → (l : LineAt g body k scope n (asks_block to tag) (before (fills_frame (ENamed to) (frame_through to tag) code next piece lower ps) (AndStmt gives_it rest)))
      → named q scope (codes "rt_frame") ≡ NotMeant → size q (TyStruct tag) ≡ Some (suc (suc (suc (length ps)))) → suc (suc (suc (length ps))) < 2 ^ 63
      → (old : Value) (h : Holds q scope slots to (TyPointer (TyStruct head)) old)
      → (r r' : Ty) (params : List Ty) (params' : Tys) → named q scope piece ≡ AFunction Native r params → field q head code ≡ Some (0, TyCode r' params')
      → (t' : Ty) (v : Value) → field q head next ≡ Some (1, t') → ((u : Store) → value (at q scope (pointed_slots slots h.slot (next_block Frame s)) u) lower ≡ Gives v) → assigned t' v ≡ Gives p
      → Saving q scope (pointed_slots slots h.slot (next_block Frame s)) tag 3 ps vs
      → (leader : Function) → IsPiece q piece leader → AreRegisters leader 0 (variables leader)
      → Rise q w.trace (suc (suc (suc (length ps))) + 4) (suc (suc (suc (length ps))) + (1 + call_cells q leader)) (at_line w fn (driving p0 r0 k0 ∷ []) k (AndStmt l.statement (before (fills_frame (ENamed to) (frame_through to tag) code next piece lower ps) (AndStmt gives_it rest))) slots s)
      (entered q w (with_frame p) leader (register_slots (length (variables leader)) (At Frame (next_block Frame s) 0 ∷ [])) p0 r0 (At Frame (next_block Frame s) 0))
      × Top (with_frame p).frames (record { piece = piece; values = vs }) fs (next_block Frame s) p Unset owned
  leader_walk fs p owned chain l is_frame is_size small old h r r' params params' is_piece is_code t' v is_next is_lower fits saving leader is_leader registers =
      let below = driving p0 r0 k0 ∷ [] in
      let b = next_block Frame s in
      let f = frame_through to tag in
      let slots' = pointed_slots slots h.slot b in
      let made = with_frame p in
      let h' = holds_new q scope slots to (TyPointer (TyStruct head)) old (At Frame b 0) h in
      let top = chain_push s.frames (record { piece = piece; values = vs }) Unset fs p owned chain in
      let first = makes_frame q w fn g body below is_g k scope n (AndStmt gives_it rest) slots s to tag head code next piece (ENamed to) f lower ps vs l is_frame is_size small (TyStruct head) old h
      (λ u. named_pointer q scope slots' u to head b h') (λ u. cast_pointer q scope slots' u to tag (TyStruct head) b h') r r' params params' is_piece is_code t' v p is_next is_lower fits saving in
      let st = past_made g body k scope n (AndStmt gives_it rest) to tag code next piece (ENamed to) f lower ps l in
      let j = suc (suc (suc k)) + length ps in
      let l' : LineAt g body j scope n gives_it rest = record { statement = gives_it; stands = st; is_bare = refl; is_line = refl } in
      let second = return_step q w fn g body (driving p0 r0 k0) [] is_g j scope n rest slots' made (ENamed to) l' (At Frame b 0) (At Frame b 0) made (held q scope slots' made to (TyPointer (TyStruct head)) (At Frame b 0) h') (ap (λ u. assigned u (At Frame b 0)) gives_pointer) (free_all slots' made (registers_set slots h.slot (At Frame b 0) all)) in
      let third = drive_goes_on q facts w made (record { piece = piece; values = vs }) fs b p Unset owned top leader is_leader p0 r0 k0 (register_slots (length (variables leader)) (At Frame b 0 ∷ [])) made (registers_call q leader (At Frame b 0 ∷ []) made registers) in
      (rise_append (suc (suc (suc (length ps)))) 4 (suc (suc (suc (length ps)))) (1 + call_cells q leader) _ _ _ first (rise_cons 3 1 (call_cells q leader) _ _ _ second third), top)
