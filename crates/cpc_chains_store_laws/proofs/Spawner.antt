-- A spawner: it makes the first frame of a thread, with its arguments, and makes the driver ready for it.
use Rattle.std.proofs.Common.{◌≡◌, ℕ, suc, ◌+◌, ◌<◌, ◌^◌, cond, List, [], ◌∷◌, ◌++◌, length, slice_get, pos, Some, None, refl, sym, ◌∙◌, ap, subst, codes, arith}
use Rattle.cpc_base.specs.Bytes.{Text}
use Rattle.cpc_num.specs.declared.kinds.Kind.TheVariants.{Int}
use Rattle.cpc_tree.specs.declared.program.Mode.TheVariants.{Native}
use Rattle.cpc_tree.specs.Syntax.{Ty, TyPointer, TyCode, TyStruct, Tys, ENamed, EInteger, Declare, Stmts, NoStmt, AndStmt, Function, Program}
use Rattle.cpc_tree.specs.Typing.{Scope, ALocal, NotMeant, AFunction, named, function_named, field, size}
use Rattle.cpc_tree.specs.Points.{Point}
use Rattle.cpc_store.specs.declared.values.Class.TheVariants.{Frame}
use Rattle.cpc_store.specs.Store.{Value, Unset, Null, Whole, At, Store, next_block, alloc}
use Rattle.cpc_meaning.specs.Agenda.{ready_one}
use Rattle.cpc_meaning.specs.Eval.{Slot, Register}
use Rattle.cpc_meaning.specs.Plain.{Frame as CallFrame}
use Rattle.cpc_meaning.specs.Events.{CallWith}
use Rattle.cpc_meaning.proofs.Functions.{text_same}
use Rattle.cpc_chains_store_laws.specs.Chains.{frame_cells}
use Rattle.cpc_convert_flat_laws.specs.Flat.{before, Stands, LineAt}
use Rattle.cpc_convert_flat_laws.specs.Locals.{Holds, Save, Saving}
use Rattle.cpc_chains_store_laws.specs.Frames.{asks_block, fills_frame, pointed_slots}
use Rattle.cpc_convert_flat_laws.specs.Boxes.{AllRegisters}
use Rattle.cpc_chains_store_laws.specs.Driver.{drive_name, with_agenda, DriverMeant, readies, spawns}
use Rattle.cpc_convert_flat_laws.specs.Walks.{World, Walk, at_line, running}
use Rattle.cpc_convert_flat_laws.proofs.Fields.{named_pointer}
use Rattle.cpc_convert_flat_laws.proofs.Walks.{rise_more, walk_one, walk_cons, walk_append}
use Rattle.cpc_convert_flat_laws.proofs.Flat.{passed}
use Rattle.cpc_convert_flat_laws.proofs.LineSteps.{declares_step}
use Rattle.cpc_chains_store_laws.proofs.Making.{makes_frame, past_made, holds_new}
use Rattle.cpc_chains_store_laws.proofs.Taking.{get_next}
use Rattle.cpc_convert_flat_laws.proofs.Boxes.{registers_set, free_all}
use Rattle.cpc_convert_flat_laws.proofs.Steps.{step_leaves}
use Rattle.cpc_chains_store_laws.proofs.Waits.{ready_step}

module _ (q : Program) (w : World) (fn : Text) (g : Function) (body : Stmts) (frame : CallFrame Point) (others : List (CallFrame Point)) (is_g : function_named q fn ≡ Some g) (scope : Scope) (n : ℕ) (done : List Slot) (s : Store) (e tag code next piece : Text) (ps : List Save) (st : Stands g body 0 scope n (spawns e tag code next piece ps)) where
  -- the scope of all lines but the first
  abbrev pub spawner_scope : Scope
  spawner_scope = record { called = e; type = TyPointer (TyStruct tag); slot = n } ∷ scope

  -- the slots, once there is a frame
  abbrev pub spawner_slots : List Slot
  spawner_slots = pointed_slots (done ++ Register Unset ∷ []) n (next_block Frame s)

  -- the store and the agenda then
  pub spawner_walk : (vs : List Value) → length done ≡ n → AllRegisters (done ++ Register Unset ∷ [])
      → named q spawner_scope (codes "rt_frame") ≡ NotMeant → named q spawner_scope (codes "rt_ready") ≡ NotMeant → DriverMeant q spawner_scope
      → size q (TyStruct tag) ≡ Some (suc (suc (suc (length ps)))) → suc (suc (suc (length ps))) < 2 ^ 63
      → (r r' : Ty) (params : List Ty) (params' : Tys) → named q spawner_scope piece ≡ AFunction Native r params → field q tag code ≡ Some (0, TyCode r' params')
      → (t' : Ty) → field q tag next ≡ Some (1, TyPointer t') → Saving q spawner_scope spawner_slots tag 3 ps vs
      → Walk q w.trace (suc (suc (suc (suc (length ps))) + 2)) (at_line w fn (frame ∷ others) 0 (spawns e tag code next piece ps) (done ++ Register Unset ∷ []) s)
      (running (with_agenda w (ready_one (CallWith drive_name (At Frame (next_block Frame s) 0)) w.agenda)) (alloc Frame (frame_cells (record { piece = piece; values = vs }) Null Unset) s) (frame ∷ others) (Some Unset))
  spawner_walk vs len all is_frame is_ready is_drive is_size small r r' params params' is_piece is_code t' is_next saving =
      let below = frame ∷ others in
      let b = next_block Frame s in
      let slots = done ++ Register Unset ∷ [] in
      let made = alloc Frame (frame_cells (record { piece = piece; values = vs }) Null Unset) s in
      let readied = with_agenda w (ready_one (CallWith drive_name (At Frame b 0)) w.agenda) in
      let last = AndStmt (readies e) NoStmt in
      let fills = before (fills_frame (ENamed e) (ENamed e) code next piece (EInteger Int (pos 0)) ps) last in
      let st1 : Stands g body 1 spawner_scope (suc n) (AndStmt (asks_block e tag) fills) = subst (λ m. Stands g body 1 spawner_scope m (AndStmt (asks_block e tag) fills)) (let z : n + 1 ≡ suc n = omega arith in z) (passed g body 0 scope n (Declare e (TyPointer (TyStruct tag)) None) (AndStmt (asks_block e tag) fills) st) in
      let l : LineAt g body 1 spawner_scope (suc n) (asks_block e tag) fills = record { statement = asks_block e tag; stands = st1; is_bare = refl; is_line = refl } in
      let h : Holds q spawner_scope slots e (TyPointer (TyStruct tag)) Unset = record {
        slot = n;
        is_local = ap (λ c. cond c (ALocal n (TyPointer (TyStruct tag))) (named q scope e)) (text_same e);
        is_slot = ap (slice_get slots) (sym len) ∙ get_next done [] (Register Unset);
      } in
      let h' = holds_new q spawner_scope slots e (TyPointer (TyStruct tag)) Unset (At Frame b 0) h in
      let st2 = past_made g body 1 spawner_scope (suc n) last e tag code next piece (ENamed e) (ENamed e) (EInteger Int (pos 0)) ps l in
      let k = suc (suc (suc 1)) + length ps in
      let l' : LineAt g body k spawner_scope (suc n) (readies e) NoStmt = record { statement = readies e; stands = st2; is_bare = refl; is_line = refl } in
      let first = rise_more 1 0 1 _ _ (omega arith) (declares_step q w fn g body below is_g 0 scope n (AndStmt (asks_block e tag) fills) slots s e (TyPointer (TyStruct tag)) st) in
      let second = makes_frame q w fn g body below is_g 1 spawner_scope (suc n) last slots s e tag tag code next piece (ENamed e) (ENamed e) (EInteger Int (pos 0)) ps vs l is_frame is_size small (TyStruct tag) Unset h
      (λ u. named_pointer q spawner_scope spawner_slots u e tag b h') (λ u. named_pointer q spawner_scope spawner_slots u e tag b h') r r' params params' is_piece is_code (TyPointer t') (Whole Int (pos 0)) Null is_next (λ u. refl) refl saving in
      let third = walk_one (at_line w fn below k last spawner_slots made) (at_line readied fn below (suc k) NoStmt spawner_slots made) (ready_step q w fn g body below is_g k spawner_scope (suc n) NoStmt spawner_slots made e l' is_ready is_drive (TyPointer (TyStruct tag)) b h') (record { is_trace = refl; goes = refl; runs = refl }) (omega arith) in
      let fourth = walk_one (at_line readied fn below (suc k) NoStmt spawner_slots made) (running readied made below (Some Unset)) (step_leaves q readied fn g below is_g spawner_slots made made frame others refl (free_all spawner_slots made (registers_set slots n (At Frame b 0) all))) (record { is_trace = refl; goes = refl; runs = refl }) (omega arith) in
      walk_cons (suc (suc (suc (length ps))) + 2) _ _ _ first (walk_append (suc (suc (suc (length ps)))) 2 _ _ _ second (walk_cons 1 _ _ _ third fourth))
