-- A piece makes the frame of a leader, and gives it to the driver.
use Rattle.std.proofs.Common.{◌≡◌, ℕ, suc, ◌+◌, ◌<◌, ◌≤◌, ◌^◌, Bool, true, false, ◌||◌, ◌==◌, List, [], ◌∷◌, ◌++◌, map, length, slice_get, slice_set, bytes_eq, Option, Some, refl, sym, ◌∙◌, ap, subst, codes, arith}
use Rattle.cpc_base.specs.Bytes.{Text}
use Rattle.cpc_base.proofs.Truth.{eq_reflexive, or_by_second}
use Rattle.cpc_base.proofs.Lists.{length_of_map}
use Rattle.cpc_tree.specs.Lists.{holds_number}
use Rattle.cpc_tree.specs.Points.{Point}
use Rattle.cpc_tree.specs.Registers.{variables}
use Rattle.cpc_tree.specs.Syntax.{Ty, TyStruct, NoTy, AndTy, ENamed, Stmt, Stmts, AndStmt, Variable, Function, Program}
use Rattle.cpc_tree.specs.Primitives.{RtFrame}
use Rattle.cpc_tree.specs.Typing.{Scope, function_named, is_scalar}
use Rattle.cpc_store.specs.declared.values.Class.TheVariants.{Frame}
use Rattle.cpc_store.specs.Store.{Value, Unset, At as Pointer, Blocks, Store}
use Rattle.cpc_meaning.specs.Eval.{Slot, Register}
use Rattle.cpc_meaning.specs.Plain.{Frame as CallFrame}
use Rattle.cpc_meaning.specs.Runs.{slots_registers}
use Rattle.cpc_meaning.proofs.Functions.{text_same}
use Rattle.cpc_convert_common.specs.Marks.{has_marks}
use Rattle.cpc_convert_common.specs.Members.{Has}
use Rattle.cpc_convert_image_laws.specs.Held.{beside}
use Rattle.cpc_convert_image_laws.specs.Locals.{Stands, AsValue, AsBlock, local_type}
use Rattle.cpc_convert_image_laws.proofs.Locals.{stands_apart}
use Rattle.cpc_convert_image_laws.proofs.Slots.{got_other}
use Rattle.cpc_forms.specs.Flow.{Place, At}
use Rattle.cpc_convert_flat_laws.specs.Boxes.{AllRegisters, NoSlot, AndSlot}
use Rattle.cpc_chains_store_laws.specs.Chains.{frame_cells}
use Rattle.cpc_chains_store_laws.specs.Driver.{code_field, next_field, any_pointer, frame_tag}
use Rattle.cpc_meaning.specs.Eval.{Fits}
use Rattle.cpc_convert_flat_laws.specs.Flat.{before, LineAt}
use Rattle.cpc_convert_flat_laws.specs.Locals.{Holds, Save}
use Rattle.cpc_chains_store_laws.specs.Frames.{asks_block, fills_frame, frame_through, pointed_slots}
use Rattle.cpc_convert_flat_laws.specs.Walks.{World, Walk, at_line}
use Rattle.cpc_convert_flat_laws.proofs.Boxes.{registers_set, slots_length}
use Rattle.cpc_convert_flat_laws.proofs.Fields.{held, named_pointer, cast_pointer}
use Rattle.cpc_chains_store_laws.proofs.Making.{makes_frame, past_made, holds_new}
use Rattle.cpc_convert_routines.specs.Given.{AllHold, NoneHold, OneHolds}
use Rattle.cpc_chains_event.specs.FlatLaws.{piece_scope, piece_count}
use Rattle.cpc_chains_event.specs.Lines.{save_of, all_do}
use Rattle.cpc_chains_event.specs.LocalLaws.{piece_locals}
use Rattle.cpc_convert_routines.specs.Named.{IsOwner, ALeader}
use Rattle.cpc_convert_routines.specs.Names.{piece_name, box_tag, next_name, variable_name}
use Rattle.cpc_chains_event.specs.Pieces.{called_so, to_frame, below_if, piece_body, piece_function}
use Rattle.cpc_convert_routines.specs.Routines.{Routine, routine_of, closure_of, is_plain, variable_of, local_of, locals_of}
use Rattle.cpc_chains_event.specs.Rows.{put_lines, put_statement}
use Rattle.cpc_chains_event.proofs.Filling.{frames_filled}
use Rattle.cpc_chains_event.proofs.Locals.{closure_rise}
use Rattle.cpc_chains_event.proofs.Lookups.{functions_found}
use Rattle.cpc_chains_event.proofs.BoxesThere.{structs_there}
use Rattle.cpc_convert_routines.proofs.Numbers.{Rises, NoneRise, OneRise, rises_below}
use Rattle.cpc_lifted_laws.specs.Related.Cut.{value_in, copied}
use Rattle.cpc_chains_laws.proofs.Accepted.Below.{below_held}
use Rattle.cpc_lifted_laws.specs.Piece.Known.{CpsKnown}
use Rattle.cpc_chains_laws.specs.Piece.Stood.{LocalsStand}
use Rattle.cpc_chains_laws.proofs.Piece.Places.{Before}
use Rattle.cpc_chains_laws.proofs.Piece.Scopes.{q, unmarked_name, piece_meant, primitive_meant, meant, local_slot, next_holds}

-- ---- registers

pub registers_all : (slots : List Slot) → AllRegisters slots → slots_registers slots ≡ length slots
registers_all _ NoSlot = refl
registers_all _ (AndSlot v slots more) = let h = registers_all slots more in omega (arith, h)

-- the locals of a piece are as many registers wherever it stands
pub same_registers : (p : Program) (r : Routine) (l : Place) (xs ys a b : List Slot) (lower : Value) → LocalsStand p r l xs a lower → LocalsStand p r l ys b lower → slots_registers b ≡ slots_registers a
same_registers p r l xs ys a b lower s t =
    let e = registers_all a s.registers in
    let i = registers_all b t.registers in
    let m = s.number in
    let n = t.number in
    omega (arith, e, i, m, n)

-- ---- numbers

rises_length : (high low : ℕ) (ns : List ℕ) → Rises high low ns → low ≤ high → length ns + low ≤ high
rises_length high low _ (NoneRise _) h = omega (arith, h)
rises_length high low _ (OneRise _ n ns l b more) h = let d = rises_length high (suc n) ns more (omega (arith, b)) in omega (arith, d, l)

-- lines that do statements, put in their row
pub puts_do : (o : Option ℕ) (ss : List Stmt) → map put_statement (put_lines o (all_do ss)) ≡ ss
puts_do o [] = refl
puts_do o (s ∷ ss) = ap (λ xs. s ∷ xs) (puts_do o ss)

module _ (p : Program) (f : Function) (known : CpsKnown p f) (l : Place) (owner : IsOwner (routine_of p f) l) where
  abbrev r : Routine
  r = routine_of p f

  abbrev pub name : Text
  name = piece_name f.called l

  abbrev pub code : Function
  code = piece_function p r l

  abbrev pub body : Stmts
  body = piece_body p r l

  abbrev pub scope : Scope
  scope = piece_scope p r l

  abbrev pub Target : Program
  Target = q p f known

  pub is_code : function_named Target name ≡ Some code
  is_code = (functions_found p known.names).pieces f known.found.cps l owner

  -- what an owner keeps are variables of the function
  pub kept_small : (m : Place) (k : ℕ) → holds_number (closure_of r m) k ≡ true → k < length (variables f)
  kept_small m k h = below_held (length (variables f)) (closure_of r m) k (rises_below (length (variables f)) 0 _ (closure_rise p known.names f known.found.cps m)) h

  pub kept_number : (m : Place) → length (closure_of r m) ≤ length (variables f)
  kept_number m = let d = rises_length (length (variables f)) 0 (closure_of r m) (closure_rise p known.names f known.found.cps m) (omega arith) in omega (arith, d)

  -- two locals of different names stand in two slots
  locals_differ : (i j : ℕ) (x y : Variable) → slice_get (piece_locals p r l) i ≡ Some x → slice_get (piece_locals p r l) j ≡ Some y → bytes_eq y.called x.called ≡ false → ¬ (j ≡ i)
  locals_differ i j x y e h apart same =
      let one : Some y ≡ Some x = sym h ∙ (ap (slice_get (piece_locals p r l)) same ∙ e) in
      let is : y ≡ x = cc in
      let z : true ≡ false = sym (text_same x.called) ∙ (ap (λ (v : Variable). bytes_eq v.called x.called) (sym is) ∙ apart) in
      absurd (cc)

  -- ---- words

  -- a word of the piece, which is no variable and not the pointer to the frames below
  pub record Word (to : Text) (t : Ty) (j : ℕ) : Type 0 where
    pub stands : slice_get (piece_locals p r l) j ≡ Some (called_so to t)
    pub variable : (k : ℕ) (x : Text) → has_marks x ≡ false → k < 2 ^ 63 → bytes_eq to (variable_name k x) ≡ false
    pub next : bytes_eq to next_name ≡ false

  module _ (to : Text) (t : Ty) (j : ℕ) (word : Word to t j) (slots slots' : List Slot) (lower : Value) (stands : LocalsStand p r l slots slots' lower) where
    other_local : (k i : ℕ) → holds_number (closure_of r l) k ≡ true → slice_get (piece_locals p r l) i ≡ Some (local_of r k) → ¬ (j ≡ i)
    other_local k i h e =
        locals_differ i j (local_of r k) (called_so to t) e word.stands
        (word.variable k (variable_of r k).called (unmarked_name p f known k) (let less = kept_small l k h in let few = known.few_variables in omega (arith, less, few)))

    -- the locals stand where a word has another value
    pub word_set : (v : Value) → LocalsStand p r l slots (slice_set slots' j (Register v)) lower
    word_set v = record {
      number = slots_length slots' j (Register v) ∙ stands.number;
      registers = registers_set slots' j v stands.registers;
      next = got_other slots' j 2 _ (Register v) (locals_differ 2 j (called_so next_name (below_if (is_scalar f.result) f.called)) (called_so to t) refl word.stands word.next) stands.next;
      pointer = stands.pointer;
      kept = λ k i h e. stands_apart IsAny slots slots' (is_plain r k) k i j (Register v) (other_local k i h e) (stands.kept k i h e);
      fits = stands.fits;
    }
      where
        IsAny : ℕ → Ty → ℕ → Type 0
        IsAny k t k' = Unit {0}

  -- ---- what is saved

  module _ (slots slots' : List Slot) (lower : Value) (stands : LocalsStand p r l slots slots' lower) where
    one_saved : (k i : ℕ) → holds_number (closure_of r l) k ≡ true → slice_get (piece_locals p r l) i ≡ Some (local_of r k) → (mark : Bool) → is_plain r k ≡ mark → Stands slots slots' mark k i
        → Holds Target scope slots' (local_of r k).called (local_of r k).type (value_in (slice_get slots k)) × Fits (local_of r k).type (value_in (slice_get slots k))
    one_saved k i h e _ m (AsValue _ _ v a b) = (
      record { slot = i; is_local = (meant p f known l owner).meant Target i (local_of r k) e; is_slot = b ∙ ap (λ o. Some (Register (value_in o))) (sym a) },
      subst (λ c. Fits (local_type c (variable_of r k).type (box_tag f.called k)) (value_in (slice_get slots k))) (sym m) (subst (λ u. Fits (variable_of r k).type u) (sym (ap value_in a)) (stands.fits k h v a)),
    )
    one_saved k i h e _ m (AsBlock _ _ n a b) = (
      record { slot = i; is_local = (meant p f known l owner).meant Target i (local_of r k) e; is_slot = b ∙ ap (λ o. Some (Register (value_in o))) (sym a) },
      subst (λ c. Fits (local_type c (variable_of r k).type (box_tag f.called k)) (value_in (slice_get slots k))) (sym m) (subst (λ u. Fits (local_type false (variable_of r k).type (box_tag f.called k)) u) (sym (ap value_in a)) refl),
    )

    -- the locals of variables that are kept hold what a frame saves of them
    pub all_saved : (ks : List ℕ) → ((k : ℕ) → holds_number ks k ≡ true → holds_number (closure_of r l) k ≡ true) → AllHold Target scope slots' (locals_of r ks) (copied slots ks)
    all_saved [] h = NoneHold
    all_saved (k ∷ ks) h =
        let kept = h k (ap (λ b. b || holds_number ks k) (eq_reflexive k)) in
        let at = (meant p f known l owner).kept k kept in
        let one = one_saved k at.0 kept at.1 (is_plain r k) refl (stands.kept k at.0 kept at.1) in
        OneHolds (local_of r k) (value_in (slice_get slots k)) (locals_of r ks) (copied slots ks) one.0 one.1 (all_saved ks (λ j i. h j (or_by_second (k == j) (holds_number ks j) i)))

  -- ---- the frame of a leader

  abbrev pub saves_of : ℕ → List Save
  saves_of m = map (λ k. save_of (local_of r k)) (closure_of r (At m))

  abbrev pub fills_of : Text → ℕ → List Stmt
  fills_of to m = fills_frame (ENamed to) (frame_through to (piece_name f.called (At m))) code_field next_field (piece_name f.called (At m)) (ENamed next_name) (saves_of m)

  -- the frame blocks with a new one, in which a leader's variables are saved
  abbrev pub with_frame : Blocks → List Slot → (lower : Value) → ℕ → Blocks
  with_frame bs slots lower m = bs ++ Some (frame_cells (record { piece = piece_name f.called (At m); values = copied slots (closure_of r (At m)) }) lower Unset) ∷ []

  module _ (m : ℕ) (leader : Has m (routine_of p f).split.leaders) (keeps : (k : ℕ) → holds_number (closure_of r (At m)) k ≡ true → holds_number (closure_of r l) k ≡ true)
      (to : Text) (j : ℕ) (word : Word to to_frame j) (slots slots' : List Slot) (lower : Value) (stands : LocalsStand p r l slots slots' lower)
      (k : ℕ) (rest : Stmts) (line : LineAt code body k scope (piece_count p r l) (asks_block to (piece_name f.called (At m))) (before (fills_of to m) rest)) where
    -- what is left behind it
    pub frame_passed : Before p f l (suc (suc (suc k)) + length (saves_of m)) rest
    frame_passed = past_made code body k scope (piece_count p r l) rest to (piece_name f.called (At m)) code_field next_field (piece_name f.called (At m)) (ENamed to) (frame_through to (piece_name f.called (At m))) (ENamed next_name) (saves_of m) line

    -- the frame is made
    pub frame_walk : (w : World) (below : List (CallFrame Point)) (bs : Blocks) (t : Store)
        → Walk Target w.trace (suc (suc (suc (length (saves_of m))))) (at_line w name below k (AndStmt line.statement (before (fills_of to m) rest)) slots' (beside bs t))
        (at_line w name below (suc (suc (suc k)) + length (saves_of m)) rest (pointed_slots slots' j (length bs)) (beside (with_frame bs slots lower m) t))
    frame_walk w below bs t =
        let tag = piece_name f.called (At m) in
        let old = local_slot p f known l owner slots' stands.registers stands.number j (called_so to to_frame) word.stands in
        let hold : Holds Target scope slots' to to_frame old.0 = record { slot = j; is_local = (meant p f known l owner).meant Target j (called_so to to_frame) word.stands; is_slot = old.1 } in
        let after = word_set to to_frame j word slots slots' lower stands (Pointer Frame (length bs) 0) in
        let slots'' = pointed_slots slots' j (length bs) in
        let hold' = holds_new Target scope slots' to to_frame old.0 (Pointer Frame (length bs) 0) hold in
        let structs = structs_there p known.names in
        let head = structs.any f known.found.cps in
        let its = structs.leader f known.found.cps m leader in
        let same : length (locals_of r (closure_of r (At m))) ≡ length (saves_of m) = length_of_map (local_of r) (closure_of r (At m)) ∙ sym (length_of_map (λ i. save_of (local_of r i)) (closure_of r (At m))) in
        let all = kept_number (At m) in
        let some = known.few_variables in
        let few : length (closure_of r (At m)) ≤ 255 = omega (arith, all, some) in
        let counted = length_of_map (λ i. save_of (local_of r i)) (closure_of r (At m)) in
        makes_frame Target w name code body below is_code k scope (piece_count p r l) rest slots' (beside bs t) to tag frame_tag code_field next_field tag (ENamed to) (frame_through to tag) (ENamed next_name) (saves_of m) (copied slots (closure_of r (At m))) line
        (primitive_meant p f known l (codes "rt_frame") RtFrame refl refl) (its.size ∙ ap (λ n. Some (suc (suc (suc n)))) same) (omega (arith, few, counted)) (TyStruct frame_tag) old.0 hold
        (λ u. named_pointer Target scope slots'' u to frame_tag (length bs) hold') (λ u. cast_pointer Target scope slots'' u to tag (TyStruct frame_tag) (length bs) hold')
        any_pointer any_pointer (any_pointer ∷ []) (AndTy any_pointer NoTy) (piece_meant p f known l (At m) (ALeader m leader)) (head.field 0 _ refl) any_pointer lower lower (head.field 1 _ refl)
        (λ u. held Target scope slots'' u next_name (below_if (is_scalar f.result) f.called) lower (next_holds p f known l owner slots slots'' lower after)) stands.pointer
        ((frames_filled p known.names f known.found.cps).saves m leader scope slots'' (copied slots (closure_of r (At m))) (all_saved slots slots'' lower after (closure_of r (At m)) keeps))
