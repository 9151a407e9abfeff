-- The tags of the structs that are made: of frames and of boxes, each once.
use Rattle.std.proofs.Common.{◌≡◌, ⊎_elim, ℕ, ◌+◌, Bool, true, false, [], ◌∷◌, ◌++◌, map, get_or, decimal, refl, sym, ◌∙◌, ap, subst, append_assoc, codes, arith}
use Rattle.cpc_base.specs.Bytes.{Text}
use Rattle.cpc_base.specs.declared.stop.Dialect.TheVariants as D
use Rattle.cpc_tree.specs.Syntax.{Ty, Function, Item, StructItem, GlobalItem, PrototypeItem, FunctionItem, Program}
use Rattle.cpc_tree.specs.Typing.{is_scalar}
use Rattle.cpc_meaning.specs.Threads.{is_cps_mode}
use Rattle.cpc_convert_common.specs.Converted.{marked}
use Rattle.cpc_convert_common.specs.Members.{Has, OnTop, Below}
use Rattle.cpc_convert_common.proofs.Members.{has_either}
use Rattle.cpc_convert_common.proofs.Marks.{NoUnderscore, marked_is, no_bar_of}
use Rattle.cpc_forms.specs.Flow.{Place, Start, At}
use Rattle.cpc_forms.specs.Pieces as P
use Rattle.cpc_lift_laws.specs.Boxes.{is_box}
use Rattle.cpc_lift_laws.specs.Lift.{boxes, variable_count}
use Rattle.cpc_chains_store_laws.specs.Driver.{frame_tag}
use Rattle.cpc_convert_routines.specs.Names.{piece_name, value_tag, box_tag}
use Rattle.cpc_convert_routines.specs.Routines.{routine_of}
use Rattle.cpc_chains_event.specs.Frames.{any_frame, value_struct_if, start_struct, leader_struct, structs_of, box_of, boxes_of}
use Rattle.cpc_convert_routines.specs.Kept.{routine_if, routines_in, routines}
use Rattle.cpc_chains_event.specs.Converted.{all_structs, all_boxes}
use Rattle.cpc_convert_routines.specs.Named.{IsNamed, IsCps}
use Rattle.cpc_chains_event.proofs.Apart.{behind, piece_is, value_is, box_is, frame_is, differ_at, no_underscore_behind, no_bar_nothing}
use Rattle.cpc_chains_event.proofs.Framed.{tag_of, no_bar_box, value_piece, box_small, boxes_same}
use Rattle.cpc_chains_event.proofs.Made.{Mapped, OfNumber, map_has, unmarked}
use Rattle.cpc_convert_routines.proofs.Numbers.{rises_once}
use Rattle.cpc_chains_event.proofs.Locals.{boxes_rise}
use Rattle.cpc_chains_laws.proofs.Rules.Made.{once_map, leaders_once, MadeOf, apart_of, leaders_told, start_told}
use Rattle.cpc_lifted_laws.proofs.Rules.Rows.{rows, Once, NoneOnce, AndOnce, once_both, has_at}

-- a text behind the underscores of a tag: a frame's begins with a letter that no box's does
pub record FrameEnd (rest : Text) : Type 0 where
  pub underscore : NoUnderscore rest
  pub some : rest ≡ codes "" → ⊥
  pub no_box : get_or rest 0 0 ≡ 98 → ⊥

pub piece_end : (l : Place) → FrameEnd (behind l)
piece_end Start = record { underscore = no_underscore_behind Start; some = λ k. differ_at 0 (behind Start) [] (λ e. absurd (omega arith)) k; no_box = λ e. absurd (omega arith) }
piece_end (At n) = record { underscore = no_underscore_behind (At n); some = λ k. differ_at 0 (behind (At n)) [] (λ e. absurd (omega arith)) k; no_box = λ e. absurd (omega arith) }

pub value_end : FrameEnd (codes "value")
value_end = record { underscore = no_bar_of _ (λ k. absurd (omega arith)); some = λ k. differ_at 0 (codes "value") [] (λ e. absurd (omega arith)) k; no_box = λ e. absurd (omega arith) }

-- the tag of a frame of a function among these items
pub record FrameTag (items : Program) (tag : Text) : Type 0 where
  pub made : MadeOf items tag
  pub end : FrameEnd made.rest

-- and of a box
pub record BoxTag (items : Program) (tag : Text) : Type 0 where
  pub made : MadeOf items tag
  pub is_box : get_or made.rest 0 0 ≡ 98

abbrev made_later : (x : Item) (items : Program) (tag : Text) → MadeOf items tag → MadeOf (x ∷ items) tag
made_later x items tag m = record { function = m.function; has = Below _ x items m.has; mode = m.mode; rest = m.rest; is = m.is; underscore = m.underscore }

frame_later : (x : Item) (items : Program) (tag : Text) → FrameTag items tag → FrameTag (x ∷ items) tag
frame_later x items tag t = record { made = made_later x items tag t.made; end = t.end }

box_later : (x : Item) (items : Program) (tag : Text) → BoxTag items tag → BoxTag (x ∷ items) tag
box_later x items tag t = record { made = made_later x items tag t.made; is_box = t.is_box }

module _ (p : Program) where
  frame_of : (f : Function) (items : Program) → is_cps_mode f.mode ≡ true → (tag rest : Text) → tag ≡ marked f.called rest → FrameEnd rest → FrameTag (FunctionItem f ∷ items) tag
  frame_of f items c tag rest i e = record { made = record { function = f; has = OnTop _ items; mode = c; rest = rest; is = i; underscore = e.underscore }; end = e }

  piece_tag : (f : Function) (items : Program) → is_cps_mode f.mode ≡ true → (x : Item) → Has x (start_struct f ∷ map (leader_struct p (routine_of p f)) (routine_of p f).split.leaders) → (l : Place) × (tag_of x ≡ piece_name f.called l)
  piece_tag f items c _ (OnTop _ _) = (Start, refl)
  piece_tag f items c x (Below _ _ _ h) = go x (map_has (leader_struct p (routine_of p f)) x (routine_of p f).split.leaders h)
    where
      go : (x : Item) → Mapped (leader_struct p (routine_of p f)) (routine_of p f).split.leaders x → (l : Place) × (tag_of x ≡ piece_name f.called l)
      go _ (OfNumber n k) = (At n, refl)

  value_tagged : (b : Bool) (f : Text) (t : Ty) (x : Item) → Has x (value_struct_if b f t) → tag_of x ≡ value_tag f
  value_tagged true f t _ (OnTop _ _) = refl
  value_tagged true f t x (Below _ _ _ h) = elim h [ ]
  value_tagged false f t x h = elim h [ ]

  -- the tags of one function's frames
  frame_one : (f : Function) (items : Program) → is_cps_mode f.mode ≡ true → (x : Item) → Has x (structs_of p (routine_of p f)) → FrameTag (FunctionItem f ∷ items) (tag_of x)
  frame_one f items c x h =
      ⊎_elim (λ a. frame_of f items c (tag_of x) (codes "value") (value_tagged (is_scalar f.result) f.called f.result x a ∙ value_is f.called) value_end)
      (λ a. let k = piece_tag f items c x a in frame_of f items c (tag_of x) (behind k.0) (k.1 ∙ piece_is f.called k.0) (piece_end k.0))
      (has_either x (value_struct_if (is_scalar f.result) f.called f.result) (start_struct f ∷ map (leader_struct p (routine_of p f)) (routine_of p f).split.leaders) h)

  pub frame_in : (items : Program) (x : Item) → Has x (all_structs p (routines_in p items)) → FrameTag items (tag_of x)
  frame_in [] x h = elim h [ ]
  frame_in (StructItem t fs ∷ items) x h = frame_later _ items (tag_of x) (frame_in items x h)
  frame_in (GlobalItem y t s ∷ items) x h = frame_later _ items (tag_of x) (frame_in items x h)
  frame_in (PrototypeItem m y r ps ∷ items) x h = frame_later _ items (tag_of x) (frame_in items x h)
  frame_in (FunctionItem f ∷ items) x h = go (is_cps_mode f.mode) refl h (frame_in items x)
    where
      go : (b : Bool) → is_cps_mode f.mode ≡ b → Has x (all_structs p (routine_if b p f (routines_in p items))) → (Has x (all_structs p (routines_in p items)) → FrameTag items (tag_of x)) → FrameTag (FunctionItem f ∷ items) (tag_of x)
      go false c h rest = frame_later _ items (tag_of x) (rest h)
      go true c h rest = ⊎_elim (λ a. frame_one f items c x a) (λ a. frame_later _ items (tag_of x) (rest a)) (has_either x (structs_of p (routine_of p f)) (all_structs p (routines_in p items)) h)

  box_one : (f : Function) (items : Program) → is_cps_mode f.mode ≡ true → (x : Item) → Mapped (box_of (routine_of p f)) (routine_of p f).boxes x → BoxTag (FunctionItem f ∷ items) (tag_of x)
  box_one f items c _ (OfNumber k h) = record {
    made = record { function = f; has = OnTop _ items; mode = c; rest = codes "box" ++ decimal k; is = box_is f.called k; underscore = no_bar_box k };
    is_box = refl;
  }

  pub box_in : (items : Program) (x : Item) → Has x (all_boxes (routines_in p items)) → BoxTag items (tag_of x)
  box_in [] x h = elim h [ ]
  box_in (StructItem t fs ∷ items) x h = box_later _ items (tag_of x) (box_in items x h)
  box_in (GlobalItem y t s ∷ items) x h = box_later _ items (tag_of x) (box_in items x h)
  box_in (PrototypeItem m y r ps ∷ items) x h = box_later _ items (tag_of x) (box_in items x h)
  box_in (FunctionItem f ∷ items) x h = go (is_cps_mode f.mode) refl h (box_in items x)
    where
      go : (b : Bool) → is_cps_mode f.mode ≡ b → Has x (all_boxes (routine_if b p f (routines_in p items))) → (Has x (all_boxes (routines_in p items)) → BoxTag items (tag_of x)) → BoxTag (FunctionItem f ∷ items) (tag_of x)
      go false c h rest = box_later _ items (tag_of x) (rest h)
      go true c h rest =
          ⊎_elim (λ a. box_one f items c x (map_has (box_of (routine_of p f)) x (routine_of p f).boxes a)) (λ a. box_later _ items (tag_of x) (rest a)) (has_either x (boxes_of (routine_of p f)) (all_boxes (routines_in p items)) h)

pub boxes_once : (p : Program) (f : Function) → P.Once (routine_of p f).boxes
boxes_once p f = rises_once (0 + variable_count p f.called) 0 (boxes p f.called) (boxes_rise p f.called 0 (variable_count p f.called))

-- what is in a row of one function is it
only : (f g : Function) → Has (FunctionItem g) (FunctionItem f ∷ []) → g ≡ f
only f _ (OnTop _ _) = refl
only f g (Below _ _ _ h) = elim h [ ]

module _ (p : Program) (ok : IsNamed p) (fine : rows D.Cpc p [] p ≡ []) where
  module _ (f : Function) (c : IsCps p f) where
    value_first : (x y : Item) → Has x (value_struct_if (is_scalar f.result) f.called f.result) → Has y (start_struct f ∷ map (leader_struct p (routine_of p f)) (routine_of p f).split.leaders) → tag_of x ≡ tag_of y → ⊥
    value_first x y h g e =
        let k = piece_tag p f [] c.mode y g in
        let i = sym (value_is f.called) ∙ sym (value_tagged p (is_scalar f.result) f.called f.result x h) ∙ e ∙ k.1 ∙ piece_is f.called k.0 in
        value_piece k.0 (marked_is f.called f.called (codes "value") (behind k.0) (unmarked ok f c.has) (unmarked ok f c.has) value_end.underscore (no_underscore_behind k.0) i).1

    value_once : (b : Bool) (g : Text) (t : Ty) → Once tag_of (value_struct_if b g t)
    value_once true g t = AndOnce _ [] (λ y h e. elim h [ ]) NoneOnce
    value_once false g t = NoneOnce

    start_first : (y : Item) → Has y (map (leader_struct p (routine_of p f)) (routine_of p f).split.leaders) → piece_name f.called Start ≡ tag_of y → ⊥
    start_first y h e = go y (map_has (leader_struct p (routine_of p f)) y (routine_of p f).split.leaders h) e
      where
        go : (y : Item) → Mapped (leader_struct p (routine_of p f)) (routine_of p f).split.leaders y → piece_name f.called Start ≡ tag_of y → ⊥
        go _ (OfNumber n k) e = start_told p ok fine f c n k e

    structs_once : Once tag_of (structs_of p (routine_of p f))
    structs_once =
        once_both tag_of (value_struct_if (is_scalar f.result) f.called f.result) _ (value_once (is_scalar f.result) f.called f.result)
        (AndOnce (start_struct f) _ start_first (once_map tag_of (leader_struct p (routine_of p f)) (routine_of p f).split.leaders (leaders_once p f) (leaders_told p ok fine f c))) value_first

    boxes_told : (j k : ℕ) → Has j (routine_of p f).boxes → Has k (routine_of p f).boxes → box_tag f.called j ≡ box_tag f.called k → j ≡ k
    boxes_told j k h g e = (boxes_same p ok f f j k c.has c.has (box_small p ok f c.has j h) (box_small p ok f c.has k g) e).1

    boxes_apart : Once tag_of (boxes_of (routine_of p f))
    boxes_apart = once_map tag_of (box_of (routine_of p f)) (routine_of p f).boxes (boxes_once p f) boxes_told

  cps : (front : Program) (f : Function) (items : Program) → p ≡ front ++ FunctionItem f ∷ items → is_cps_mode f.mode ≡ true → IsCps p f
  cps front f items e c = record { has = subst (Has (FunctionItem f)) (sym e) (has_at front items (FunctionItem f)); mode = c }

  frames_from : (front items : Program) → p ≡ front ++ items → Once tag_of (all_structs p (routines_in p items))
  frames_from front [] e = NoneOnce
  frames_from front (StructItem t fs ∷ items) e = frames_from (front ++ StructItem t fs ∷ []) items (e ∙ sym (append_assoc front _ items))
  frames_from front (GlobalItem x t s ∷ items) e = frames_from (front ++ GlobalItem x t s ∷ []) items (e ∙ sym (append_assoc front _ items))
  frames_from front (PrototypeItem m x r ps ∷ items) e = frames_from (front ++ PrototypeItem m x r ps ∷ []) items (e ∙ sym (append_assoc front _ items))
  frames_from front (FunctionItem f ∷ items) e = go (is_cps_mode f.mode) refl (frames_from (front ++ FunctionItem f ∷ []) items (e ∙ sym (append_assoc front _ items)))
    where
      apart : is_cps_mode f.mode ≡ true → (x y : Item) → Has x (structs_of p (routine_of p f)) → Has y (all_structs p (routines_in p items)) → tag_of x ≡ tag_of y → ⊥
      apart c x y h k i =
          let w = (frame_one p f [] c x h).made in
          let same = only f w.function w.has in
          apart_of p ok fine front f items e (tag_of x) (tag_of y) w.rest (w.is ∙ ap (λ (g : Function). marked g.called w.rest) same) w.underscore (frame_in p items y k).made i

      go : (b : Bool) → is_cps_mode f.mode ≡ b → Once tag_of (all_structs p (routines_in p items)) → Once tag_of (all_structs p (routine_if b p f (routines_in p items)))
      go false c o = o
      go true c o = once_both tag_of (structs_of p (routine_of p f)) (all_structs p (routines_in p items)) (structs_once f (cps front f items e c)) o (apart c)

  boxes_from_items : (front items : Program) → p ≡ front ++ items → Once tag_of (all_boxes (routines_in p items))
  boxes_from_items front [] e = NoneOnce
  boxes_from_items front (StructItem t fs ∷ items) e = boxes_from_items (front ++ StructItem t fs ∷ []) items (e ∙ sym (append_assoc front _ items))
  boxes_from_items front (GlobalItem x t s ∷ items) e = boxes_from_items (front ++ GlobalItem x t s ∷ []) items (e ∙ sym (append_assoc front _ items))
  boxes_from_items front (PrototypeItem m x r ps ∷ items) e = boxes_from_items (front ++ PrototypeItem m x r ps ∷ []) items (e ∙ sym (append_assoc front _ items))
  boxes_from_items front (FunctionItem f ∷ items) e = go (is_cps_mode f.mode) refl (boxes_from_items (front ++ FunctionItem f ∷ []) items (e ∙ sym (append_assoc front _ items)))
    where
      apart : is_cps_mode f.mode ≡ true → (x y : Item) → Has x (boxes_of (routine_of p f)) → Has y (all_boxes (routines_in p items)) → tag_of x ≡ tag_of y → ⊥
      apart c x y h k i =
          let w = (box_one p f [] c x (map_has (box_of (routine_of p f)) x (routine_of p f).boxes h)).made in
          let same = only f w.function w.has in
          apart_of p ok fine front f items e (tag_of x) (tag_of y) w.rest (w.is ∙ ap (λ (g : Function). marked g.called w.rest) same) w.underscore (box_in p items y k).made i

      go : (b : Bool) → is_cps_mode f.mode ≡ b → Once tag_of (all_boxes (routines_in p items)) → Once tag_of (all_boxes (routine_if b p f (routines_in p items)))
      go false c o = o
      go true c o = once_both tag_of (boxes_of (routine_of p f)) (all_boxes (routines_in p items)) (boxes_apart f (cps front f items e c)) o (apart c)

  any_first : (y : Item) → Has y (all_structs p (routines p)) → frame_tag ≡ tag_of y → ⊥
  any_first y h e =
      let t = frame_in p p y h in
      t.end.some (sym (marked_is (codes "frame") t.made.function.called (codes "") t.made.rest refl (unmarked ok t.made.function t.made.has) no_bar_nothing t.made.underscore (sym frame_is ∙ e ∙ t.made.is)).1)

  -- the structs of frames
  pub frames_once : Once tag_of (any_frame ∷ all_structs p (routines p))
  frames_once = AndOnce any_frame _ any_first (frames_from [] p refl)

  -- and those of boxes
  pub all_boxes_once : Once tag_of (all_boxes (routines p))
  all_boxes_once = boxes_from_items [] p refl

  -- no frame's tag is a box's
  pub box_frame : (x y : Item) → Has x (any_frame ∷ all_structs p (routines p)) → Has y (all_boxes (routines p)) → tag_of x ≡ tag_of y → ⊥
  box_frame _ y (OnTop _ _) h e =
      let t = box_in p p y h in
      let i = (marked_is (codes "frame") t.made.function.called (codes "") t.made.rest refl (unmarked ok t.made.function t.made.has) no_bar_nothing t.made.underscore (sym frame_is ∙ e ∙ t.made.is)).1 in
      differ_at 0 (codes "") t.made.rest (λ k. absurd (let z = t.is_box in omega (arith, z, k))) i
  box_frame x y (Below _ _ _ g) h e =
      let t = box_in p p y h in
      let u = frame_in p p x g in
      let i = (marked_is u.made.function.called t.made.function.called u.made.rest t.made.rest (unmarked ok u.made.function u.made.has) (unmarked ok t.made.function t.made.has) u.made.underscore t.made.underscore (sym u.made.is ∙ e ∙ t.made.is)).1 in
      u.end.no_box (ap (λ z. get_or z 0 0) i ∙ t.is_box)
