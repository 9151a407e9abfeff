-- The start takes up the first frame of a call: its locals stand for the slots of the call when its boxes are made.
use Rattle.std.proofs.Common.{◌≡◌, ℕ, zero, suc, ◌+◌, ◌<◌, ◌≤◌, ◌^◌, Bool, true, false, not, ◌&&◌, ◌==◌, List, [], ◌∷◌, ◌++◌, map, length, slice_get, get_or, is_some, nat_lt, bytes_eq, Option, Some, None, refl, sym, ◌∙◌, ap, subst, codes, arith}
use Rattle.std.proofs.lemmas.Option.{slice_get_within}
use Rattle.cpc_base.specs.Bytes.{Text}
use Rattle.cpc_base.proofs.Truth.{eq_reflexive, eq_means, lt_means, lt_not_means}
use Rattle.cpc_base.proofs.Lists.{found_within, length_of_map, item_in_front}
use Rattle.cpc_tree.specs.Lists.{holds_number}
use Rattle.cpc_tree.specs.Primitives.{RtBox}
use Rattle.cpc_tree.specs.Registers.{variables, is_register}
use Rattle.cpc_tree.specs.Syntax.{Ty, TyPointer, TyStruct, NoStmt, AndStmt, Variable, Function, Program}
use Rattle.cpc_store.specs.declared.values.Class.TheVariants.{Frame}
use Rattle.cpc_store.specs.Store.{Value, Unset, At as Pointer, Blocks, Store, cells_of}
use Rattle.cpc_meaning.specs.Answer.{Gives, ◌>>=◌}
use Rattle.cpc_meaning.specs.Eval.{Slot, Register}
use Rattle.cpc_meaning.specs.Slots.{make_slots, call_slots}
use Rattle.cpc_meaning.proofs.Functions.{text_same}
use Rattle.cpc_convert_common.specs.Marks.{has_marks}
use Rattle.cpc_convert_common.specs.Converted.{marked}
use Rattle.cpc_forms.specs.Flow.{Start}
use Rattle.cpc_graph_laws.proofs.Formed.{in_left}
use Rattle.cpc_convert_image_laws.specs.Held.{beside}
use Rattle.cpc_convert_flat_laws.specs.Boxes.{AllRegisters, AndSlot, with_boxes}
use Rattle.cpc_chains_store_laws.specs.Chains.{frame_cells}
use Rattle.cpc_convert_flat_laws.specs.Blocks.{moved}
use Rattle.cpc_chains_store_laws.specs.Driver.{any_pointer}
use Rattle.cpc_meaning.specs.Eval.{Fits}
use Rattle.cpc_convert_flat_laws.specs.Flat.{before}
use Rattle.cpc_convert_flat_laws.specs.Locals.{Loading, blank}
use Rattle.cpc_chains_store_laws.specs.Frames.{frees_frame}
use Rattle.cpc_convert_flat_laws.specs.Walks.{World, Swell, at_line}
use Rattle.cpc_convert_flat_laws.proofs.Beside.{slots_beside}
use Rattle.cpc_convert_flat_laws.proofs.Boxes.{boxes_walk}
use Rattle.cpc_chains_event.specs.BoxingLaws.{VariablesHaveSizes, ArePlaces, StartBoxes}
use Rattle.cpc_convert_routines.specs.Given.{AllFit, NoneFit, OneFits}
use Rattle.cpc_chains_event.specs.FlatLaws.{piece_scope, piece_count}
use Rattle.cpc_chains_event.specs.LocalLaws.{piece_locals}
use Rattle.cpc_convert_routines.specs.Named.{IsOwner, TheStart}
use Rattle.cpc_convert_routines.specs.Names.{piece_name, pointer_name, frame_name}
use Rattle.cpc_chains_event.specs.Pieces.{called_so, loaded, loads_of, words_of, begun, declares_of, boxing_of}
use Rattle.cpc_convert_routines.specs.Routines.{Routine, routine_of, closure_of, is_plain, variable_of, variable_or, local_of, locals_of, variable_if, passed_from, passed, is_parameter, chosen}
use Rattle.cpc_chains_event.specs.Rows.{piece_statements}
use Rattle.cpc_chains_event.proofs.Boxing.{starts_box}
use Rattle.cpc_chains_event.proofs.Fields.{variables_apart, word_apart}
use Rattle.cpc_chains_event.proofs.Filling.{frames_filled, passed_at, fit_at}
use Rattle.cpc_convert_routines.proofs.Numbers.{chosen_has}
use Rattle.cpc_chains_event.proofs.Locals.{in_back}
use Rattle.cpc_lifted_laws.specs.Related.Cut.{value_in}
use Rattle.cpc_lifted_laws.specs.Piece.Known.{CpsKnown}
use Rattle.cpc_chains_laws.specs.Piece.Stood.{LocalsStand}
use Rattle.cpc_chains_laws.proofs.Piece.Frames.{code, body, is_code, kept_small}
use Rattle.cpc_chains_laws.proofs.Piece.Scopes.{q, unmarked_name, primitive_meant, meant}
use Rattle.cpc_chains_laws.specs.Entry.Taken.{KeptIn, IsValue, IsBlock, CallTaken}
use Rattle.cpc_lifted_laws.proofs.Entry.Boxes.{none_beyond, AtPlace, PassedAt, BoxedAt, places_number, places_at, boxes_other, boxes_at, boxes_registers, boxes_number}
use Rattle.cpc_lifted_laws.proofs.Entry.Marks.{plain_is}
use Rattle.cpc_chains_laws.proofs.Entry.Opening.{locals_number, opened, before_boxes, Boxed as BoxesLead, under, boxes_stand}
use Rattle.cpc_chains_laws.proofs.Entry.Standing.{got_register, all_registers, registers_number, loading_number, KeptOf, value_at, HasValue, locals_stand}

-- ---- lists

blank_at : (ys : List Variable) (i : ℕ) (y : Variable) → slice_get ys i ≡ Some y → slice_get (blank (length ys) []) i ≡ Some (Register Unset)
blank_at [] i y e = absurd (cc)
blank_at (z ∷ ys) zero y e = refl
blank_at (z ∷ ys) (suc i) y e = blank_at ys i y e

-- behind what is loaded, locals hold nothing
got_blank : (xs ys : List Variable) (us : List Value) (i : ℕ) (y : Variable) → length us ≡ length xs → slice_get ys i ≡ Some y
    → (j : ℕ) × (slice_get (xs ++ ys) j ≡ Some y) × (slice_get (map Register us ++ blank (length ys) []) j ≡ Some (Register Unset))
got_blank [] ys [] i y e g = (i, g, blank_at ys i y g)
got_blank [] ys (u ∷ us) i y e g = absurd (omega (arith, e))
got_blank (x ∷ xs) ys [] i y e g = absurd (omega (arith, e))
got_blank (x ∷ xs) ys (u ∷ us) i y e g = let d = got_blank xs ys us i y (omega (arith, e)) g in (suc d.0, d.1, d.2)

pub all_number : (xs : List Variable) (vs : List Value) → AllFit xs vs → length vs ≡ length xs
all_number _ _ NoneFit = refl
all_number _ _ (OneFits x v xs vs e more) = ap suc (all_number xs vs more)

passed_number : (k n : ℕ) (xs : List Variable) → length (passed_from k n xs) ≤ n
passed_number k zero xs = omega arith
passed_number k (suc n) [] = omega arith
passed_number k (suc n) (x ∷ xs) = one _ _ (passed_number (suc k) n xs)
  where
    one : (b : Bool) (y : Variable) → length (passed_from (suc k) n xs) ≤ n → length (variable_if b y (passed_from (suc k) n xs)) ≤ suc n
    one true y h = omega (arith, h)
    one false y h = omega (arith, h)

place_at : (p : Program) (r : Routine) (k : ℕ) (places : List (Option ℕ)) → ArePlaces p r k places → (j i : ℕ) → slice_get places j ≡ Some (Some i) → slice_get (piece_locals p r Start) i ≡ Some (local_of r (k + j))
place_at p r k [] stand j i e = absurd (cc)
place_at p r k (o ∷ places) stand zero i e = stand.0 i (cc) ∙ ap (λ m. Some (local_of r m)) (let z : k ≡ k + 0 = omega arith in z)
place_at p r k (o ∷ places) stand (suc j) i e = place_at p r (suc k) places stand.1 j i e ∙ ap (λ m. Some (local_of r m)) (let z : suc k + j ≡ k + suc j = omega arith in z)

module _ (p : Program) (f : Function) (known : CpsKnown p f) (sizes : VariablesHaveSizes p f) (vs : List Value) (call : CallTaken p f vs) where
  abbrev r : Routine
  r = routine_of p f

  abbrev pub owner : IsOwner r Start
  owner = TheStart

  abbrev kept : List ℕ
  kept = closure_of r Start

  abbrev count : ℕ
  count = length (variables f)

  abbrev pub args : List Value
  args = map (λ k. get_or vs k Unset) (loaded r Start)

  -- ---- names

  small : (k : ℕ) → k < count → k < 2 ^ 63
  small k h = let few = known.few_variables in omega (arith, h, few)

  -- the local of a variable is that of no other
  same_local : (j k : ℕ) → j < count → k < count → local_of r j ≡ local_of r k → j ≡ k
  same_local j k h g e = go (j == k) refl
    where
      differ : (j == k) ≡ false → bytes_eq (local_of r j).called (local_of r k).called ≡ false
      differ d = variables_apart j k (variable_of r j).called (variable_of r k).called (small j h) (small k g) (unmarked_name p f known j) (unmarked_name p f known k) (λ (i : j ≡ k). let z : true ≡ false = sym (eq_reflexive k) ∙ (ap (λ m. m == k) (sym i) ∙ d) in absurd (cc))

      go : (b : Bool) → (j == k) ≡ b → j ≡ k
      go true d = eq_means j k d
      go false d = absurd (let z : true ≡ false = sym (text_same (local_of r k).called) ∙ (ap (λ (x : Variable). bytes_eq x.called (local_of r k).called) (sym e) ∙ differ d) in cc)

  -- nor is it a word
  no_word : (w : Text) (t : Ty) (k : ℕ) → has_marks w ≡ false → k < count → called_so (marked w []) t ≡ local_of r k → ⊥
  no_word w t k plain h e =
      let z : true ≡ false = sym (text_same (marked w [])) ∙ (ap (λ (x : Variable). bytes_eq (marked w []) x.called) e ∙ word_apart w k (variable_of r k).called plain (unmarked_name p f known k) (small k h)) in absurd (cc)

  -- ---- variables

  there_is : (k : ℕ) → k < count → (x : Variable) × (slice_get (variables f) k ≡ Some x)
  there_is k h = found_within (variables f) k h

  -- a variable that is no parameter has no argument
  nothing_there : (k : ℕ) → nat_lt k (length f.parameters) ≡ false → get_or vs k Unset ≡ Unset
  nothing_there k h =
      let a = lt_not_means k (length f.parameters) h in
      let b = all_number (passed f) vs call.fit in
      let c = passed_number 0 (length f.parameters) (variables f) in
      none_beyond vs k (omega (arith, a, b, c))

  -- an argument fits its variable; where there is none, nothing is there
  value_fits : (k : ℕ) (x : Variable) → slice_get (variables f) k ≡ Some x → Fits x.type (get_or vs k Unset)
  value_fits k x e = go (nat_lt k (length f.parameters)) refl
    where
      go : (b : Bool) → nat_lt k (length f.parameters) ≡ b → Fits x.type (get_or vs k Unset)
      go true h =
          (fit_at p known.names f known.found.cps (passed f) vs k _ call.fit (passed_at p known.names f known.found.cps 0 (length f.parameters) (variables f) call.scalar k x (lt_means k (length f.parameters) h) e)).1
      go false h = subst (Fits x.type) (sym (nothing_there k h)) refl

  -- ---- what is loaded

  module _ (next v : Value) (fits : Fits any_pointer next) where
    -- the cells of the first frame
    abbrev pub cells : List Value
    cells = frame_cells (record { piece = piece_name f.called Start; values = vs }) next v

    pub boxing : StartBoxes p f next v vs
    boxing = starts_box p known.names f known.found.cps call.scalar sizes next v vs call.fit

    pub loading : Loading (q p f known) (piece_name f.called Start) frame_name cells (loads_of p r Start) (next ∷ args)
    loading = (frames_filled p known.names f known.found.cps).takes call.scalar next v vs fits call.fit

    loaded_number : length (next ∷ args) ≡ length (loads_of p r Start)
    loaded_number = loading_number (q p f known) (piece_name f.called Start) frame_name cells (loads_of p r Start) (next ∷ args) loading

    -- the local at a box's place is the box's
    place_is : (k i : ℕ) → slice_get boxing.places k ≡ Some (Some i) → (k < count) × (slice_get (piece_locals p r Start) i ≡ Some (local_of r k))
    place_is k i e =
        let within = slice_get_within boxing.places k (Some i) e in
        let number = places_number p f (q p f known) (piece_scope p r Start) (piece_count p r Start) 1 (piece_name f.called Start) frame_name cells 0 (variables f) vs boxing.places (boxing_of r Start) boxing.boxing in
        (let z : k < count = omega (arith, within, number) in z, place_at p r 0 boxing.places boxing.stand k i e ∙ ap (λ m. Some (local_of r m)) (let z : 0 + k ≡ k = omega arith in z))

    -- of no other
    one_place : (j k i : ℕ) → k < count → slice_get boxing.places j ≡ Some (Some i) → slice_get (piece_locals p r Start) i ≡ Some (local_of r k) → j ≡ k
    one_place j k i less e g =
        let at = place_is j i e in
        let z : Some (local_of r j) ≡ Some (local_of r k) = sym at.1 ∙ g in
        same_local j k at.0 less (cc)

    -- and of no word
    word_free : (w : Text) (t : Ty) (i : ℕ) → has_marks w ≡ false → slice_get (piece_locals p r Start) i ≡ Some (called_so (marked w []) t) → (j : ℕ) → slice_get boxing.places j ≡ Some (Some i) → ⊥
    word_free w t i plain e j g =
        let at = place_is j i g in
        let z : Some (called_so (marked w []) t) ≡ Some (local_of r j) = sym e ∙ at.1 in
        no_word w t j plain at.0 (cc)

    module _ (b : ℕ) where
      -- the locals before the boxes are made
      abbrev pub first_locals : List Slot
      first_locals = opened p f known Start owner b (next ∷ args)

      first_number : length first_locals ≡ length (piece_locals p r Start)
      first_number = let e = registers_number (next ∷ args) (length (declares_of p r Start)) in let g = locals_number p f known Start owner in let h = loaded_number in omega (arith, e, g, h)

      first_registers : AllRegisters first_locals
      first_registers = AndSlot _ _ (AndSlot _ _ (all_registers (next ∷ args) (length (declares_of p r Start))))

      -- a register's local has the argument
      abbrev FirstAt : ℕ → Type 0
      FirstAt k = (i : ℕ) × (slice_get (piece_locals p r Start) i ≡ Some (local_of r k)) × (slice_get first_locals i ≡ Some (Register (get_or vs k Unset)))

      first_at : (k : ℕ) → holds_number kept k ≡ true → is_plain r k ≡ true → FirstAt k
      first_at k h plain = go (is_parameter f k) refl
        where
          args_number : length args ≡ length (locals_of r (loaded r Start))
          args_number = length_of_map (λ j. get_or vs j Unset) (loaded r Start) ∙ sym (length_of_map (local_of r) (loaded r Start))

          go : (c : Bool) → is_parameter f k ≡ c → FirstAt k
          go true e =
              let held = chosen_has (λ j. is_parameter f j && is_plain r j) kept k h (ap (λ c. c && is_plain r k) e ∙ plain) in
              let at = value_at r (λ j. get_or vs j Unset) (loaded r Start) k held in
              (suc (suc (suc at.0)), item_in_front (locals_of r (loaded r Start)) (declares_of p r Start) at.0 (local_of r k) at.1, got_register args _ at.0 _ at.2)
          go false e =
              let held = in_left k (chosen (λ j. not (is_parameter f j) && is_plain r j) kept) r.boxes (chosen_has (λ j. not (is_parameter f j) && is_plain r j) kept k h (ap (λ c. not c && is_plain r k) e ∙ plain)) in
              let at = value_at r (λ j. Unset) (begun r Start) k held in
              let behind = in_back (local_of r k) (words_of p r Start) (locals_of r (begun r Start)) (at.0, at.1) in
              let there = got_blank (locals_of r (loaded r Start)) (declares_of p r Start) args behind.0 (local_of r k) args_number behind.1 in
              (suc (suc (suc there.0)), there.1, there.2 ∙ ap (λ u. Some (Register u)) (sym (nothing_there k e)))

      module _ (s t : Store) (slots : List Slot) (made : call_slots p f vs s ≡ Gives (slots, t)) where
        -- the locals when they are made
        abbrev pub locals : List Slot
        locals = with_boxes boxing.places slots first_locals

        at_place : (k : ℕ) (x : Variable) → slice_get (variables f) k ≡ Some x → AtPlace p f slots boxing.places vs k (is_register f k x)
        at_place k x e =
            places_at p f (q p f known) (piece_scope p r Start) (piece_count p r Start) 1 (piece_name f.called Start) frame_name cells 0 (variables f) vs boxing.places (boxing_of r Start) boxing.boxing s slots t made k x e k
            (let z : k ≡ 0 + k = omega arith in z)

        place_kept : (k : ℕ) (u : Ty) (c : Bool) → AtPlace p f slots boxing.places vs k c → Fits u (get_or vs k Unset) → KeptIn slots u k c
        place_kept k u _ (PassedAt a g) fit = IsValue _ g fit
        place_kept k u _ (BoxedAt i n a g) fit = IsBlock n g

        pub all_kept : (k : ℕ) → holds_number kept k ≡ true → KeptOf r slots k
        all_kept k h =
            let x = there_is k (kept_small p f known Start owner Start k h) in
            subst (KeptIn slots (variable_of r k).type k) (sym (plain_is p f known k x.0 x.1))
            (place_kept k (variable_of r k).type (is_register f k x.0) (at_place k x.0 x.1) (subst (λ (y : Variable). Fits y.type (get_or vs k Unset)) (sym (ap variable_or x.1)) (value_fits k x.0 x.1)))

        some_there : (i : ℕ) (x : Variable) → slice_get (piece_locals p r Start) i ≡ Some x → is_some (slice_get first_locals i) ≡ true
        some_there i x e =
            let within = slice_get_within (piece_locals p r Start) i x e in
            let number = first_number in
            ap is_some (found_within first_locals i (let z : i < length first_locals = omega (arith, within, number) in z)).1

        place_value : (k : ℕ) → k < count → holds_number kept k ≡ true → (c : Bool) → is_plain r k ≡ c → AtPlace p f slots boxing.places vs k c → HasValue p f known Start owner slots locals k
        place_value k less h _ plain (PassedAt a g) =
            let at = first_at k h plain in (
              at.0,
              at.1,
              boxes_other boxing.places slots first_locals at.0
                  (λ j e. let z : Some (Some at.0) ≡ Some None = sym e ∙ (ap (slice_get boxing.places) (one_place j k at.0 less e at.1) ∙ a) in absurd (cc))
                  ∙ (at.2 ∙ ap (λ o. Some (Register (value_in o))) (sym g)),
            )
        place_value k less h _ plain (BoxedAt i n a g) =
            let at = place_is k i a in
            (i, at.1, boxes_at boxing.places slots first_locals k i n a g (λ j e. one_place j k i less e at.1) (some_there i (local_of r k) at.1) ∙ ap (λ o. Some (Register (value_in o))) (sym g))

        values : (k : ℕ) → holds_number kept k ≡ true → HasValue p f known Start owner slots locals k
        values k h =
            let less = kept_small p f known Start owner Start k h in
            let x = there_is k less in
            place_value k less h (is_register f k x.0) (plain_is p f known k x.0 x.1) (at_place k x.0 x.1)

        pub locals_there : LocalsStand p r Start slots locals next
        locals_there =
            locals_stand p f known Start owner slots locals next (boxes_number boxing.places slots first_locals ∙ first_number) (boxes_registers boxing.places slots first_locals first_registers)
            (boxes_other boxing.places slots first_locals 2 (word_free (codes "next") _ 2 refl refl)) fits all_kept values

        -- the pointer to the frame
        pub pointer_there : slice_get locals 0 ≡ Some (Register (Pointer Frame b 0))
        pointer_there = boxes_other boxing.places slots first_locals 0 (word_free (codes "k") _ 0 refl refl)

        -- the boxes are made
        module _ (bs : Blocks) (live : cells_of Frame b (beside bs s) ≡ Some cells) where
          same_made : make_slots p f 0 (variables f) vs (beside bs s) ≡ Gives (slots, beside bs t)
          same_made = slots_beside bs p f 0 (variables f) vs s ∙ ap (λ a. a >>= λ x. Gives (moved bs x)) made

          pub boxed : (w : World) (pointer result frame : Value) → BoxesLead p f known Start owner w pointer result frame (beside bs s) b (next ∷ args) locals (beside bs t)
          boxed w pointer result frame =
              let name = piece_name f.called Start in
              let its = code p f known Start owner in
              let all = body p f known Start owner in
              let below = under p f known Start owner w pointer result frame in
              let left = AndStmt (frees_frame pointer_name) (before (piece_statements p r Start) NoStmt) in
              let k = before_boxes p f known Start owner in
              let m =
              boxes_walk p f (q p f known) w name its all below (is_code p f known Start owner) (piece_scope p r Start) (piece_count p r Start) left (piece_count p r Start) 1 name frame_name b cells
              (primitive_meant p f known Start (codes "rt_box") RtBox refl refl) ((meant p f known Start owner).meant (q p f known) 1 (called_so frame_name (TyPointer (TyStruct name))) refl)
              k 0 (variables f) vs boxing.places (boxing_of r Start) first_locals (beside bs s) boxing.boxing first_registers (first_number ∙ locals_number p f known Start owner ∙ count_is) refl live
              (boxes_stand p f known Start owner w pointer result frame (beside bs s) b cells live) in
              let both : Gives (m.made, m.store) ≡ Gives (slots, beside bs t) = sym m.is_made ∙ same_made in
              let pair : (m.made, m.store) ≡ (slots, beside bs t) = cc in
              subst
              (λ (x : List Slot × Store). Swell (q p f known) w.trace (length (boxing_of r Start)) (at_line w name below k (before (boxing_of r Start) left) first_locals (beside bs s)) (at_line w name below (k + length (boxing_of r Start)) left (with_boxes boxing.places x.0 first_locals) x.1))
              pair m.leads
            where
              count_is : suc (suc (length (loads_of p r Start) + length (declares_of p r Start))) ≡ piece_count p r Start
              count_is = omega arith
