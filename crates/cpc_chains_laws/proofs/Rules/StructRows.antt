-- The rows of the structs that are made: of frames, and of boxes behind the items that stay.
use Rattle.std.proofs.Common.{◌≡◌, ⊎_elim, ℕ, suc, ◌+◌, ◌<◌, ◌≤◌, ◌^◌, Bool, true, false, not, List, [], ◌∷◌, ◌++◌, map, reverse, length, get_or, decimal, Some, refl, sym, ◌∙◌, ap, subst, append_assoc, append-nil, codes, arith}
use Rattle.std.proofs.lemmas.Option.{slice_get-get_or}
use Rattle.std.proofs.lemmas.Bool.Decides.{nat_tests}
use Rattle.std.proofs.lemmas.List.{length-map}
use Rattle.cpc_base.specs.Bytes.{Text}
use Rattle.cpc_base.specs.declared.stop.Dialect.TheVariants as D
use Rattle.cpc_num.specs.declared.kinds.Kind.TheVariants.{Int}
use Rattle.cpc_tree.specs.Registers.{variables}
use Rattle.cpc_tree.specs.Syntax.{TyInt, TyVoid, TyStruct, Variable, Function, Item, StructItem, GlobalItem, PrototypeItem, FunctionItem, Program}
use Rattle.cpc_tree.specs.Typing.{◌>>=◌, cells, size, is_scalar, struct_cells, fields_cells}
use Rattle.cpc_tree.proofs.Options.{then_some}
use Rattle.cpc_check_rules.specs.declared.rule.Rule.TheVariants.{Twice, Incomplete}
use Rattle.cpc_check_rules.specs.Rule.{at_if}
use Rattle.cpc_check_rules.specs.Scopes.{has_cells}
use Rattle.cpc_check_rules.specs.FunctionRules.{is_kept}
use Rattle.cpc_check_rules.specs.ItemRules.{outside, is_oversized, item_breaks}
use Rattle.cpc_check_laws.proofs.Native.NativeValues.{both_none}
use Rattle.cpc_check_laws.proofs.Native.OnePlace.{here, item_here, item_again}
use Rattle.cpc_meaning.specs.Threads.{is_cps_mode}
use Rattle.cpc_check_laws.proofs.Sound.Agreement.{Grows, sizes_grow}
use Rattle.cpc_check_laws.proofs.Sound.Options.{then_of}
use Rattle.cpc_convert_common.specs.Marks.{has_marks}
use Rattle.cpc_convert_common.specs.Converted.{marked}
use Rattle.cpc_convert_common.specs.Members.{Has, OnTop, Below}
use Rattle.cpc_convert_common.proofs.Members.{has_left, has_either}
use Rattle.cpc_convert_common.proofs.Marks.{marked_has}
use Rattle.cpc_forms.specs.Flow.{Place, Start, At}
use Rattle.cpc_lift_laws.specs.Lift.{boxes}
use Rattle.cpc_lift_laws.proofs.Lift.{boxes_exact}
use Rattle.cpc_lift_laws.proofs.Boxes.{boxes_are_below}
use Rattle.cpc_convert_flat_laws.specs.Structs.{ScalarFields}
use Rattle.cpc_chains_store_laws.specs.Driver.{frame_tag}
use Rattle.cpc_convert_routines.specs.Names.{box_tag}
use Rattle.cpc_convert_routines.specs.Routines.{routine_of, closure_of, variable_of, variable_or, local_of, locals_of, passed}
use Rattle.cpc_chains_event.specs.Frames.{start_struct, leader_struct, box_of, boxes_of, value_struct_if, structs_of}
use Rattle.cpc_convert_routines.specs.Arriving.{arriving_type}
use Rattle.cpc_convert_routines.specs.Kept.{kept_items, routines, routine_if, routines_in}
use Rattle.cpc_chains_event.specs.Converted.{all_structs, all_boxes}
use Rattle.cpc_convert_routines.specs.Named.{IsCps}
use Rattle.cpc_chains_event.proofs.Apart.{behind, piece_is, value_is, box_is}
use Rattle.cpc_chains_event.proofs.Extending.{Beyond}
use Rattle.cpc_chains_event.proofs.Fields.{kept_rises, passed_length, passed_rise, frame_fields, NoneRises}
use Rattle.cpc_chains_event.proofs.Framed.{tag_of, held}
use Rattle.cpc_chains_event.proofs.Locals.{closure_rise}
use Rattle.cpc_convert_routines.proofs.Numbers.{Rises, NoneRise, OneRise}
use Rattle.cpc_chains_event.proofs.StructsThere.{arriving_scalar}
use Rattle.cpc_chains_event.proofs.Made.{Mapped, OfNumber, map_has}
use Rattle.cpc_lifted_laws.specs.Accepted.Pieces.{VariablesHaveCells}
use Rattle.cpc_lifted_laws.proofs.Rules.Items.{no_struct}
use Rattle.cpc_chains_laws.proofs.Rules.Kept.{KeptItem, KeepStruct, kept_has}
use Rattle.cpc_chains_laws.proofs.Rules.KeptRows.{Source}
use Rattle.cpc_lifted_laws.proofs.Rules.Names.{made_unkept}
use Rattle.cpc_chains_laws.proofs.Rules.Parts.{frames, front_of, front_structs, boxes_marked, struct_in_frames}
use Rattle.cpc_lifted_laws.proofs.Rules.Rows.{rows, Once, each_row, once_front, has_at}
use Rattle.cpc_chains_laws.proofs.Rules.Tags.{frames_once, all_boxes_once, box_frame}
use Rattle.cpc_chains_laws.proofs.Rules.Types.{grows_of, beyond_none, beyond_whole, own_size, sized, scalars_fit, scalars_sized, scalars_apart}
use Rattle.cpc_chains_laws.proofs.Rules.FunctionRows.{free_name}

-- ---- lengths

rises_length : (high low : ℕ) (ns : List ℕ) → low ≤ high → Rises high low ns → length ns + low ≤ high
rises_length high low _ h (NoneRise _) = omega arith
rises_length high low _ h (OneRise _ n ns l b r) = let k = rises_length high (suc n) ns (omega arith) r in omega (arith, k, l)

-- ---- frames

-- a struct of few scalar fields, each with a name of its own, whose tag the language does not keep
data FrameFine : Item → Type 0 where
  IsFine : (tag : Text) (fs : List Variable) → ScalarFields fs → length fs ≤ 1024 → is_kept tag ≡ false → FrameFine (StructItem tag fs)

-- its row, where no struct before it has its tag
fine_row : (q before : Program) (x : Item) → FrameFine x → ((fs : List Variable) → Has (StructItem (tag_of x) fs) before → ⊥) → item_breaks D.Event q before (item_here x) ≡ []
fine_row q before _ (IsFine tag fs s l e) none =
    both_none _ _ (free_name tag e) (both_none _ _ (ap (λ b. at_if b here Twice) (no_struct tag before none))
    (both_none _ _ (ap (λ b. at_if b here Incomplete) (subst (λ y. is_oversized (size (before ++ y ∷ []) (TyStruct tag)) ≡ false) (sym (item_again (StructItem tag fs))) (scalars_fit before tag fs s l)))
    (both_none _ _ (scalars_apart fs s) (scalars_sized (outside D.Event before).scope fs s))))

-- the box of a variable of a cps function
data BoxAt (p : Program) : Item → Type 0 where
  ABoxAt : (f : Function) (c : IsCps p f) (k : ℕ) → Has k (routine_of p f).boxes → BoxAt p (box_of (routine_of p f) k)

box_of_number : (p : Program) (f : Function) → IsCps p f → (x : Item) → Mapped (box_of (routine_of p f)) (routine_of p f).boxes x → BoxAt p x
box_of_number p f c _ (OfNumber k h) = ABoxAt f c k h

box_at : (p items : Program) → ((i : Item) → Has i items → Has i p) → (x : Item) → Has x (all_boxes (routines_in p items)) → BoxAt p x
box_at p [] up x h = elim h [ ]
box_at p (StructItem t fs ∷ items) up x h = box_at p items (λ i k. up i (Below _ _ _ k)) x h
box_at p (GlobalItem y t s ∷ items) up x h = box_at p items (λ i k. up i (Below _ _ _ k)) x h
box_at p (PrototypeItem m y r ps ∷ items) up x h = box_at p items (λ i k. up i (Below _ _ _ k)) x h
box_at p (FunctionItem f ∷ items) up x h = go (is_cps_mode f.mode) refl h (box_at p items (λ i k. up i (Below _ _ _ k)) x)
  where
    go : (b : Bool) → is_cps_mode f.mode ≡ b → Has x (all_boxes (routine_if b p f (routines_in p items))) → (Has x (all_boxes (routines_in p items)) → BoxAt p x) → BoxAt p x
    go false c h rest = rest h
    go true c h rest =
        ⊎_elim (λ a. box_of_number p f (record { has = up (FunctionItem f) (OnTop _ items); mode = c }) x (map_has (box_of (routine_of p f)) x (routine_of p f).boxes a)) rest
        (has_either x (boxes_of (routine_of p f)) (all_boxes (routines_in p items)) h)

module _ (p : Program) (source : Source p) where
  few : (f : Function) → IsCps p f → length (variables f) ≤ 255
  few f c = (source.names.functions f c.has).few

  free : (f : Function) → IsCps p f → is_kept f.called ≡ false
  free f c = (source.names.items (FunctionItem f) c.has).unkept

  kept_length : (f : Function) (c : IsCps p f) (l : Place) → length (locals_of (routine_of p f) (closure_of (routine_of p f) l)) ≤ 255
  kept_length f c l =
      let r = rises_length (length (variables f)) 0 (closure_of (routine_of p f) l) (omega arith) (closure_rise p source.named f c l) in
      let e = length-map (closure_of (routine_of p f) l) (local_of (routine_of p f)) in
      let n = few f c in
      omega (arith, r, e, n)

  -- the frames of one function
  module _ (f : Function) (cps : IsCps p f) where
    value_fine : (b : Bool) → is_scalar f.result ≡ b → (x : Item) → Has x (value_struct_if b f.called f.result) → FrameFine x
    value_fine true e _ (OnTop _ _) = IsFine _ _ (frame_fields f.result 0 [] e (NoneRises 0)) (omega arith) (ap is_kept (value_is f.called) ∙ made_unkept f.called (codes "value") (free f cps))
    value_fine true e x (Below _ _ _ h) = elim h [ ]
    value_fine false e x h = elim h [ ]

    leader_fine : (x : Item) → Mapped (leader_struct p (routine_of p f)) (routine_of p f).split.leaders x → FrameFine x
    leader_fine _ (OfNumber n h) =
        let l = kept_length f cps (At n) in
        IsFine _ _ (frame_fields (arriving_type p (routine_of p f) (At n)) 0 _ (arriving_scalar p (routine_of p f) (At n)) (kept_rises p source.named f cps (At n))) (omega (arith, l))
        (ap is_kept (piece_is f.called (At n)) ∙ made_unkept f.called (behind (At n)) (free f cps))

    piece_fine : (x : Item) → Has x (start_struct f ∷ map (leader_struct p (routine_of p f)) (routine_of p f).split.leaders) → FrameFine x
    piece_fine _ (OnTop _ _) =
        let l = passed_length 0 (length f.parameters) (variables f) in
        let n = few f cps in
        IsFine _ _ (frame_fields (TyInt Int) 0 (passed f) refl (passed_rise p source.named f cps)) (omega (arith, l, n)) (ap is_kept (piece_is f.called Start) ∙ made_unkept f.called (behind Start) (free f cps))
    piece_fine x (Below _ _ _ h) = leader_fine x (map_has (leader_struct p (routine_of p f)) x (routine_of p f).split.leaders h)

    structs_fine : (x : Item) → Has x (structs_of p (routine_of p f)) → FrameFine x
    structs_fine x h = ⊎_elim (λ a. value_fine (is_scalar f.result) refl x a) (λ a. piece_fine x a) (has_either x (value_struct_if (is_scalar f.result) f.called f.result) (start_struct f ∷ map (leader_struct p (routine_of p f)) (routine_of p f).split.leaders) h)

  fine_in : (items : Program) → ((i : Item) → Has i items → Has i p) → (x : Item) → Has x (all_structs p (routines_in p items)) → FrameFine x
  fine_in [] up x h = elim h [ ]
  fine_in (StructItem t fs ∷ items) up x h = fine_in items (λ i k. up i (Below _ _ _ k)) x h
  fine_in (GlobalItem y t s ∷ items) up x h = fine_in items (λ i k. up i (Below _ _ _ k)) x h
  fine_in (PrototypeItem m y r ps ∷ items) up x h = fine_in items (λ i k. up i (Below _ _ _ k)) x h
  fine_in (FunctionItem f ∷ items) up x h = go (is_cps_mode f.mode) refl h (fine_in items (λ i k. up i (Below _ _ _ k)) x)
    where
      go : (b : Bool) → is_cps_mode f.mode ≡ b → Has x (all_structs p (routine_if b p f (routines_in p items))) → (Has x (all_structs p (routines_in p items)) → FrameFine x) → FrameFine x
      go false c h rest = rest h
      go true c h rest = ⊎_elim (λ a. structs_fine f (record { has = up (FunctionItem f) (OnTop _ items); mode = c }) x a) rest (has_either x (structs_of p (routine_of p f)) (all_structs p (routines_in p items)) h)

  all_fine : (x : Item) → Has x (frames p (routines p)) → FrameFine x
  all_fine _ (OnTop _ _) = IsFine frame_tag _ (frame_fields (TyInt Int) 0 [] refl (NoneRises 0)) (omega arith) refl
  all_fine x (Below _ _ _ h) = fine_in p (λ i k. k) x h

  -- the structs of frames
  pub frame_rows : (q : Program) → rows D.Event q [] (frames p (routines p)) ≡ []
  frame_rows q = each_row D.Event q [] (frames p (routines p))
      (λ front x back e. fine_row q front x (all_fine x (subst (Has x) (sym e) (has_at front back x)))
      (λ fs h. once_front tag_of front back x (subst (Once tag_of) e (frames_once p source.named source.fine)) (StructItem (tag_of x) fs) h refl))

  -- ---- boxes

  -- a struct of one field that has cells, behind some items
  box_fits : (before : Program) (tag : Text) (x : Variable) (m : ℕ) → size before x.type ≡ Some m → m ≤ 2 ^ 16 → is_oversized (size (before ++ StructItem tag (x ∷ []) ∷ []) (TyStruct tag)) ≡ false
  box_fits before tag x m e le =
      let k = then_some (cells before x.type) (λ ts. Some (length ts)) m e in
      let n : length k.0 ≡ m = let z = k.2 in cc in
      ap is_oversized (own_size before tag (x ∷ []) (k.0 ++ []) (then_of (cells before x.type) (λ xs. fields_cells (struct_cells (reverse before)) [] >>= λ ys. Some (xs ++ ys)) k.0 (k.0 ++ []) k.1 refl))
      ∙ not_over (length (k.0 ++ [])) (subst (λ ts. length ts ≤ 2 ^ 16) (sym (append-nil k.0)) (subst (λ i. i ≤ 2 ^ 16) (sym n) le))
    where
      not_over : (n : ℕ) → n ≤ 2 ^ 16 → is_oversized (Some n) ≡ false
      not_over n h = grind (arith, nat_tests)

  has_some : (m : ℕ) → 0 < m → m ≤ 2 ^ 16 → has_cells (Some m) ≡ true
  has_some m h g = grind (arith, nat_tests)

  box_row : (q before : Program) (tag : Text) (x : Variable) (m : ℕ) → is_kept tag ≡ false → ((fs : List Variable) → Has (StructItem tag fs) before → ⊥) → size before x.type ≡ Some m → 0 < m → m ≤ 2 ^ 16
      → item_breaks D.Event q before (item_here (StructItem tag (x ∷ []))) ≡ []
  box_row q before tag x m free none e some le =
      both_none _ _ (free_name tag free) (both_none _ _ (ap (λ b. at_if b here Twice) (no_struct tag before none)) (both_none _ _ (ap (λ b. at_if b here Incomplete) (box_fits before tag x m e le)) (both_none _ _ refl
      (both_none _ _ (ap (λ b. at_if (not b) here Incomplete) (sized (outside D.Event before).scope x.type m e (has_some m some le))) refl))))

  module _ (cells : (f : Function) → IsCps p f → VariablesHaveCells p f) where
    abbrev base : Program
    base = front_of p (routines p) ++ kept_items p

    -- among the items that stay types are as they were
    grown : (some : Program) → ((tag : Text) (fs : List Variable) → Has (StructItem tag fs) some → has_marks tag ≡ true) → Grows p (base ++ some)
    grown some marked =
        grows_of p (base ++ some)
        (subst (Beyond p) (sym (append_assoc (front_of p (routines p)) (kept_items p) some))
        (beyond_whole (front_of p (routines p)) p some source.named.unmarked (beyond_none (front_of p (routines p)) (front_structs p)) (beyond_none some marked)))

    none_before : (front : Program) (x : Item) (back : Program) → all_boxes (routines p) ≡ front ++ x ∷ back → (fs : List Variable) → Has (StructItem (tag_of x) fs) (base ++ front) → has_marks (tag_of x) ≡ true → ⊥
    none_before front x back e fs h marked =
        ⊎_elim (λ a. ⊎_elim (λ b. in_front b) (λ b. in_kept (kept_has p (StructItem (tag_of x) fs) b)) (has_either _ (front_of p (routines p)) (kept_items p) a))
        (λ a. once_front tag_of front back x (subst (Once tag_of) e (all_boxes_once p source.named source.fine)) (StructItem (tag_of x) fs) a refl) (has_either (StructItem (tag_of x) fs) base front h)
      where
        x_in : Has x (all_boxes (routines p))
        x_in = subst (Has x) (sym e) (has_at front back x)

        in_front : Has (StructItem (tag_of x) fs) (front_of p (routines p)) → ⊥
        in_front h = box_frame p source.named source.fine (StructItem (tag_of x) fs) x (struct_in_frames p (tag_of x) fs h) x_in refl

        in_kept : (i : Item) × Has i p × KeptItem i (StructItem (tag_of x) fs) → ⊥
        in_kept k = plain k.0 k.1 k.2
          where
            plain : (i : Item) → Has i p → KeptItem i (StructItem (tag_of x) fs) → ⊥
            plain _ h (KeepStruct _ _) = let z : true ≡ false = sym marked ∙ (source.names.items (StructItem (tag_of x) fs) h).unmarked in absurd (cc)

    boxed_row : (q front : Program) (x : Item) (back : Program) → all_boxes (routines p) ≡ front ++ x ∷ back → BoxAt p x → item_breaks D.Event q (base ++ front) (item_here x) ≡ []
    boxed_row q front _ back e (ABoxAt f cps k i) =
        let r = routine_of p f in
        let nothing : Variable = record { called = []; type = TyVoid } in
        let below : k < length (variables f) = boxes_are_below p f.called f (source.named.found f cps.has) k ((boxes_exact p f.called k).0 (held k (boxes p f.called) i)) in
        let at = slice_get-get_or (variables f) k nothing below in
        let is : variable_of r k ≡ get_or (variables f) k nothing = ap variable_or at in
        let m = cells f cps k (get_or (variables f) k nothing) at in
        let size_is : size p (variable_of r k).type ≡ Some m.0 = ap (λ (v : Variable). size p v.type) is ∙ m.1 in
        box_row q (base ++ front) (box_tag f.called k) (variable_of r k) m.0 (ap is_kept (box_is f.called k) ∙ made_unkept f.called (codes "box" ++ decimal k) (free f cps))
        (λ fs g. none_before front (box_of r k) back e fs g (ap has_marks (box_is f.called k) ∙ marked_has f.called (codes "box" ++ decimal k)))
        (sizes_grow p (base ++ front) (grown front (λ tag fs h. boxes_marked p tag fs (subst (Has (StructItem tag fs)) (sym e) (has_left (StructItem tag fs) front (box_of r k ∷ back) h)))) (variable_of r k).type m.0 size_is) m.2 m.3

    -- the structs of boxes
    pub box_rows : (q : Program) → rows D.Event q base (all_boxes (routines p)) ≡ []
    box_rows q = each_row D.Event q base (all_boxes (routines p)) (λ front x back e. boxed_row q front x back e (box_at p p (λ i k. k) x (subst (Has x) (sym e) (has_at front back x))))
