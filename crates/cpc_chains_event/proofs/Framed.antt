-- Which structs are made of the cps functions of a program, and that their tags are apart.
use Rattle.std.proofs.Common.{◌≡◌, ℕ, ◌<◌, ◌^◌, ◌==◌, ◌||◌, ⊎_elim, Bool, true, false, List, [], ◌∷◌, ◌++◌, map, decimal, refl, sym, ◌∙◌, ap, subst, codes, arith}
use Rattle.cpc_base.specs.Bytes.{Text}
use Rattle.cpc_base.proofs.Truth.{eq_reflexive, or_by_second}
use Rattle.cpc_tree.specs.Syntax.{Function, Item, StructItem, GlobalItem, PrototypeItem, FunctionItem, Program}
use Rattle.cpc_tree.specs.Typing.{is_scalar}
use Rattle.cpc_meaning.specs.Threads.{is_cps_mode}
use Rattle.cpc_convert_common.specs.Marks.{has_marks}
use Rattle.cpc_convert_common.specs.Converted.{marked}
use Rattle.cpc_convert_common.specs.Members.{Has, OnTop, Below}
use Rattle.cpc_convert_common.proofs.Marks.{NoUnderscore, marked_is, decimal_is, no_bar_of}
use Rattle.cpc_convert_common.proofs.Members.{has_left, has_right, has_either}
use Rattle.cpc_tree.specs.Lists.{holds_number}
use Rattle.cpc_lift_laws.specs.Lift.{boxes}
use Rattle.cpc_lift_laws.proofs.Lift.{boxes_exact}
use Rattle.cpc_lift_laws.proofs.Boxes.{boxes_are_below}
use Rattle.cpc_forms.specs.Flow.{Place, Start, At}
use Rattle.cpc_chains_store_laws.specs.Driver.{frame_tag}
use Rattle.cpc_convert_routines.specs.Names.{piece_name, value_tag, box_tag}
use Rattle.cpc_convert_routines.specs.Routines.{routine_of}
use Rattle.cpc_chains_event.specs.Frames.{any_frame, value_struct, value_struct_if, start_struct, leader_struct, structs_of, box_of, boxes_of}
use Rattle.cpc_convert_routines.specs.Kept.{routine_if, routines_in}
use Rattle.cpc_chains_event.specs.Converted.{all_structs, all_boxes}
use Rattle.cpc_convert_routines.specs.Named.{ALeader, IsNamed}
use Rattle.cpc_chains_event.proofs.Apart.{behind, piece_is, value_is, box_is, frame_is, differ_at, no_underscore_behind, no_bar_nothing, piece_nothing, Small, StartIsSmall, behind_is}
use Rattle.cpc_chains_event.proofs.Made.{Mapped, OfNumber, map_has, has_map, unmarked, small, one_function}

-- a struct that is made
pub data Framed (p : Program) (items : List Item) : Item → Type 0 where
  AnyFrame : Framed p items any_frame
  AValue : (f : Function) → Has (FunctionItem f) items → is_cps_mode f.mode ≡ true → Framed p items (value_struct f.called f.result)
  AStart : (f : Function) → Has (FunctionItem f) items → is_cps_mode f.mode ≡ true → Framed p items (start_struct f)
  OfLeader : (f : Function) (n : ℕ) → Has (FunctionItem f) items → is_cps_mode f.mode ≡ true → Has n (routine_of p f).split.leaders → Framed p items (leader_struct p (routine_of p f) n)
  ABox : (f : Function) (k : ℕ) → Has (FunctionItem f) items → is_cps_mode f.mode ≡ true → Has k (routine_of p f).boxes → Framed p items (box_of (routine_of p f) k)

framed_later : (p : Program) (item : Item) (items : List Item) (x : Item) → Framed p items x → Framed p (item ∷ items) x
framed_later p item items _ AnyFrame = AnyFrame
framed_later p item items _ (AValue f h c) = AValue f (Below _ item items h) c
framed_later p item items _ (AStart f h c) = AStart f (Below _ item items h) c
framed_later p item items _ (OfLeader f n h c k) = OfLeader f n (Below _ item items h) c k
framed_later p item items _ (ABox f n h c k) = ABox f n (Below _ item items h) c k

module _ (p : Program) where
  framed_leader : (f : Function) (items : List Item) → is_cps_mode f.mode ≡ true → (x : Item) → Mapped (leader_struct p (routine_of p f)) (routine_of p f).split.leaders x → Framed p (FunctionItem f ∷ items) x
  framed_leader f items c _ (OfNumber n k) = OfLeader f n (OnTop _ items) c k

  framed_rest : (f : Function) (items : List Item) → is_cps_mode f.mode ≡ true → (x : Item) → Has x (start_struct f ∷ map (leader_struct p (routine_of p f)) (routine_of p f).split.leaders) → Framed p (FunctionItem f ∷ items) x
  framed_rest f items c _ (OnTop _ _) = AStart f (OnTop _ items) c
  framed_rest f items c x (Below _ _ _ h) = framed_leader f items c x (map_has (leader_struct p (routine_of p f)) x (routine_of p f).split.leaders h)

  framed_value : (b : Bool) (f : Function) (items : List Item) → is_cps_mode f.mode ≡ true → (x : Item) → Has x (value_struct_if b f.called f.result) → Framed p (FunctionItem f ∷ items) x
  framed_value true f items c _ (OnTop _ _) = AValue f (OnTop _ items) c
  framed_value true f items c x (Below _ _ _ h) = elim h [ ]
  framed_value false f items c x h = elim h [ ]

  framed_one : (f : Function) (items : List Item) → is_cps_mode f.mode ≡ true → (x : Item) → Has x (structs_of p (routine_of p f)) → Framed p (FunctionItem f ∷ items) x
  framed_one f items c x h = ⊎_elim (λ a. framed_value (is_scalar f.result) f items c x a) (λ a. framed_rest f items c x a) (has_either x (value_struct_if (is_scalar f.result) f.called f.result) _ h)

  framed_either : (f : Function) (items : List Item) (x : Item) → (Has x (all_structs p (routines_in p items)) → Framed p items x) → (b : Bool) → is_cps_mode f.mode ≡ b → Has x (all_structs p (routine_if b p f (routines_in p items)))
      → Framed p (FunctionItem f ∷ items) x
  framed_either f items x rest true e k = ⊎_elim (λ a. framed_one f items e x a) (λ a. framed_later p (FunctionItem f) items x (rest a)) (has_either x (structs_of p (routine_of p f)) (all_structs p (routines_in p items)) k)
  framed_either f items x rest false e k = framed_later p (FunctionItem f) items x (rest k)

  pub framed_is : (items : List Item) (x : Item) → Has x (all_structs p (routines_in p items)) → Framed p items x
  framed_is [] x h = elim h [ ]
  framed_is (StructItem t fs ∷ items) x h = framed_later p _ items x (framed_is items x h)
  framed_is (GlobalItem y t s ∷ items) x h = framed_later p _ items x (framed_is items x h)
  framed_is (PrototypeItem m y r ps ∷ items) x h = framed_later p _ items x (framed_is items x h)
  framed_is (FunctionItem f ∷ items) x h = framed_either f items x (λ a. framed_is items x a) (is_cps_mode f.mode) refl h

  framed_if : (e : Function) (items : List Item) (x : Item) → Has x (all_structs p (routines_in p items)) → (b : Bool) → Has x (all_structs p (routine_if b p e (routines_in p items)))
  framed_if e items x h true = has_right x (structs_of p (routine_of p e)) (all_structs p (routines_in p items)) h
  framed_if e items x h false = h

  pub framed_has : (items : List Item) (f : Function) (x : Item) → Has (FunctionItem f) items → is_cps_mode f.mode ≡ true → Has x (structs_of p (routine_of p f)) → Has x (all_structs p (routines_in p items))
  framed_has [] f x h c k = elim h [ ]
  framed_has (StructItem t fs ∷ items) f x (Below _ _ _ h) c k = framed_has items f x h c k
  framed_has (GlobalItem y t s ∷ items) f x (Below _ _ _ h) c k = framed_has items f x h c k
  framed_has (PrototypeItem m y r ps ∷ items) f x (Below _ _ _ h) c k = framed_has items f x h c k
  framed_has (FunctionItem e ∷ items) f x (OnTop _ _) c k = subst (λ b. Has x (all_structs p (routine_if b p f (routines_in p items)))) (sym c) (has_left x (structs_of p (routine_of p f)) _ k)
  framed_has (FunctionItem e ∷ items) f x (Below _ _ _ h) c k = framed_if e items x (framed_has items f x h c k) (is_cps_mode e.mode)

  -- so it is with boxes
  boxed_one : (f : Function) (items : List Item) → is_cps_mode f.mode ≡ true → (x : Item) → Mapped (box_of (routine_of p f)) (routine_of p f).boxes x → Framed p (FunctionItem f ∷ items) x
  boxed_one f items c _ (OfNumber k h) = ABox f k (OnTop _ items) c h

  boxed_either : (f : Function) (items : List Item) (x : Item) → (Has x (all_boxes (routines_in p items)) → Framed p items x) → (b : Bool) → is_cps_mode f.mode ≡ b → Has x (all_boxes (routine_if b p f (routines_in p items)))
      → Framed p (FunctionItem f ∷ items) x
  boxed_either f items x rest true e k =
      ⊎_elim (λ a. boxed_one f items e x (map_has (box_of (routine_of p f)) x (routine_of p f).boxes a)) (λ a. framed_later p (FunctionItem f) items x (rest a)) (has_either x (boxes_of (routine_of p f)) (all_boxes (routines_in p items)) k)
  boxed_either f items x rest false e k = framed_later p (FunctionItem f) items x (rest k)

  pub boxed_is : (items : List Item) (x : Item) → Has x (all_boxes (routines_in p items)) → Framed p items x
  boxed_is [] x h = elim h [ ]
  boxed_is (StructItem t fs ∷ items) x h = framed_later p _ items x (boxed_is items x h)
  boxed_is (GlobalItem y t s ∷ items) x h = framed_later p _ items x (boxed_is items x h)
  boxed_is (PrototypeItem m y r ps ∷ items) x h = framed_later p _ items x (boxed_is items x h)
  boxed_is (FunctionItem f ∷ items) x h = boxed_either f items x (λ a. boxed_is items x a) (is_cps_mode f.mode) refl h

  boxed_if : (e : Function) (items : List Item) (x : Item) → Has x (all_boxes (routines_in p items)) → (b : Bool) → Has x (all_boxes (routine_if b p e (routines_in p items)))
  boxed_if e items x h true = has_right x (boxes_of (routine_of p e)) (all_boxes (routines_in p items)) h
  boxed_if e items x h false = h

  pub boxed_has : (items : List Item) (f : Function) (x : Item) → Has (FunctionItem f) items → is_cps_mode f.mode ≡ true → Has x (boxes_of (routine_of p f)) → Has x (all_boxes (routines_in p items))
  boxed_has [] f x h c k = elim h [ ]
  boxed_has (StructItem t fs ∷ items) f x (Below _ _ _ h) c k = boxed_has items f x h c k
  boxed_has (GlobalItem y t s ∷ items) f x (Below _ _ _ h) c k = boxed_has items f x h c k
  boxed_has (PrototypeItem m y r ps ∷ items) f x (Below _ _ _ h) c k = boxed_has items f x h c k
  boxed_has (FunctionItem e ∷ items) f x (OnTop _ _) c k = subst (λ b. Has x (all_boxes (routine_if b p f (routines_in p items)))) (sym c) (has_left x (boxes_of (routine_of p f)) _ k)
  boxed_has (FunctionItem e ∷ items) f x (Below _ _ _ h) c k = boxed_if e items x (boxed_has items f x h c k) (is_cps_mode e.mode)

  pub has_box : (f : Function) (k : ℕ) → Has k (routine_of p f).boxes → Has (box_of (routine_of p f) k) (boxes_of (routine_of p f))
  has_box f k h = has_map (box_of (routine_of p f)) k _ h

  -- the structs of a function
  pub has_value : (f : Function) → is_scalar f.result ≡ true → Has (value_struct f.called f.result) (structs_of p (routine_of p f))
  has_value f s = has_left _ (value_struct_if (is_scalar f.result) f.called f.result) _ (subst (λ b. Has (value_struct f.called f.result) (value_struct_if b f.called f.result)) (sym s) (OnTop _ _))

  pub has_start : (f : Function) → Has (start_struct f) (structs_of p (routine_of p f))
  has_start f = has_right _ (value_struct_if (is_scalar f.result) f.called f.result) _ (OnTop _ _)

  pub has_leader : (f : Function) (n : ℕ) → Has n (routine_of p f).split.leaders → Has (leader_struct p (routine_of p f) n) (structs_of p (routine_of p f))
  has_leader f n k = has_right _ (value_struct_if (is_scalar f.result) f.called f.result) _ (Below _ _ _ (has_map (leader_struct p (routine_of p f)) n _ k))

-- ---- tags

-- the tag of a struct
abbrev pub tag_of : Item → Text
tag_of (StructItem tag fs) = tag
tag_of item = []

pub no_bar_box : (k : ℕ) → NoUnderscore (codes "box" ++ decimal k)
no_bar_box k = no_bar_of _ (λ e. absurd (omega arith))

box_nothing : (k : ℕ) → codes "box" ++ decimal k ≡ codes "" → ⊥
box_nothing k e = differ_at 0 (codes "box" ++ decimal k) [] (λ i. absurd (omega arith)) e

box_value : (k : ℕ) → codes "box" ++ decimal k ≡ codes "value" → ⊥
box_value k e = differ_at 0 (codes "box" ++ decimal k) (codes "value") (λ i. absurd (omega arith)) e

box_piece : (k : ℕ) (l : Place) → codes "box" ++ decimal k ≡ behind l → ⊥
box_piece k Start e = differ_at 0 (codes "box" ++ decimal k) (codes "start") (λ i. absurd (omega arith)) e
box_piece k (At n) e = differ_at 0 (codes "box" ++ decimal k) (codes "at" ++ decimal n) (λ i. absurd (omega arith)) e

-- a number of a list is held by it
pub held : (k : ℕ) (ks : List ℕ) → Has k ks → holds_number ks k ≡ true
held k _ (OnTop _ ks) = ap (λ b. b || holds_number ks k) (eq_reflexive k)
held k _ (Below _ j ks h) = or_by_second (j == k) (holds_number ks k) (held k ks h)

no_bar_value : NoUnderscore (codes "value")
no_bar_value = no_bar_of _ (λ k. absurd (omega arith))

value_nothing : codes "value" ≡ codes "" → ⊥
value_nothing k = differ_at 0 (codes "value") [] (λ e. absurd (omega arith)) k

pub value_piece : (l : Place) → codes "value" ≡ behind l → ⊥
value_piece Start k = differ_at 0 (codes "value") (codes "start") (λ e. absurd (omega arith)) k
value_piece (At n) k = differ_at 0 (codes "value") (codes "at" ++ decimal n) (λ e. absurd (omega arith)) k

module _ (p : Program) (ok : IsNamed p) where
  -- tags of a word or a function with different texts behind them
  differ : (f g d e : Text) → has_marks f ≡ false → has_marks g ≡ false → NoUnderscore d → NoUnderscore e → (d ≡ e → ⊥) → (t u : Text) → t ≡ marked f d → u ≡ marked g e → t ≡ u → ⊥
  differ f g d e hf hg nd ne h t u i j k = h (marked_is f g d e hf hg nd ne (sym i ∙ k ∙ j)).1

  value_start : (f g : Function) (l : Place) → Has (FunctionItem f) p → Has (FunctionItem g) p → value_tag f.called ≡ piece_name g.called l → ⊥
  value_start f g l h k e = differ f.called g.called (codes "value") (behind l) (unmarked ok f h) (unmarked ok g k) no_bar_value (no_underscore_behind l) (value_piece l) _ _ (value_is f.called) (piece_is g.called l) e

  value_any : (f : Function) → Has (FunctionItem f) p → value_tag f.called ≡ frame_tag → ⊥
  value_any f h e = differ f.called (codes "frame") (codes "value") (codes "") (unmarked ok f h) refl no_bar_value no_bar_nothing value_nothing _ _ (value_is f.called) frame_is e

  piece_any : (f : Function) (l : Place) → Has (FunctionItem f) p → piece_name f.called l ≡ frame_tag → ⊥
  piece_any f l h e = differ f.called (codes "frame") (behind l) (codes "") (unmarked ok f h) refl (no_underscore_behind l) no_bar_nothing (piece_nothing l) _ _ (piece_is f.called l) frame_is e

  -- pieces of one name
  pub pieces_same : (f g : Function) (a b : Place) → Has (FunctionItem f) p → Has (FunctionItem g) p → Small a → Small b → piece_name f.called a ≡ piece_name g.called b → (f ≡ g) × (a ≡ b)
  pieces_same f g a b h k sa sb e =
      let m = marked_is f.called g.called (behind a) (behind b) (unmarked ok f h) (unmarked ok g k) (no_underscore_behind a) (no_underscore_behind b) (sym (piece_is f.called a) ∙ e ∙ piece_is g.called b) in
      (one_function ok f g h k m.0, behind_is a b sa sb m.1)

  -- the number of a box is one of a variable
  pub box_small : (f : Function) → Has (FunctionItem f) p → (k : ℕ) → Has k (routine_of p f).boxes → k < 2 ^ 63
  box_small f h k b =
      let below = boxes_are_below p f.called f (ok.found f h) k ((boxes_exact p f.called k).0 (held k (boxes p f.called) b)) in
      let few = ok.few f h in
      omega (arith, below, few)

  box_any : (f : Function) (k : ℕ) → Has (FunctionItem f) p → box_tag f.called k ≡ frame_tag → ⊥
  box_any f k h e = differ f.called (codes "frame") (codes "box" ++ decimal k) (codes "") (unmarked ok f h) refl (no_bar_box k) no_bar_nothing (box_nothing k) _ _ (box_is f.called k) frame_is e

  box_no_value : (f g : Function) (k : ℕ) → Has (FunctionItem f) p → Has (FunctionItem g) p → box_tag f.called k ≡ value_tag g.called → ⊥
  box_no_value f g k h i e = differ f.called g.called (codes "box" ++ decimal k) (codes "value") (unmarked ok f h) (unmarked ok g i) (no_bar_box k) no_bar_value (box_value k) _ _ (box_is f.called k) (value_is g.called) e

  box_no_piece : (f g : Function) (k : ℕ) (l : Place) → Has (FunctionItem f) p → Has (FunctionItem g) p → box_tag f.called k ≡ piece_name g.called l → ⊥
  box_no_piece f g k l h i e = differ f.called g.called (codes "box" ++ decimal k) (behind l) (unmarked ok f h) (unmarked ok g i) (no_bar_box k) (no_underscore_behind l) (box_piece k l) _ _ (box_is f.called k) (piece_is g.called l) e

  pub boxes_same : (f g : Function) (j k : ℕ) → Has (FunctionItem f) p → Has (FunctionItem g) p → j < 2 ^ 63 → k < 2 ^ 63 → box_tag f.called j ≡ box_tag g.called k → (f ≡ g) × (j ≡ k)
  boxes_same f g j k h i sj sk e =
      let m = marked_is f.called g.called (codes "box" ++ decimal j) (codes "box" ++ decimal k) (unmarked ok f h) (unmarked ok g i) (no_bar_box j) (no_bar_box k) (sym (box_is f.called j) ∙ e ∙ box_is g.called k) in
      let numbers : decimal j ≡ decimal k = let z = m.1 in cc in
      (one_function ok f g h i m.0, decimal_is j k sj sk numbers)

  -- structs of one tag are one
  pub framed_once : (x y : Item) → Framed p p x → Framed p p y → tag_of y ≡ tag_of x → y ≡ x
  framed_once _ _ AnyFrame AnyFrame e = refl
  framed_once _ _ AnyFrame (AValue g k d) e = absurd (value_any g k e)
  framed_once _ _ AnyFrame (AStart g k d) e = absurd (piece_any g Start k e)
  framed_once _ _ AnyFrame (OfLeader g m k d j) e = absurd (piece_any g (At m) k e)
  framed_once _ _ AnyFrame (ABox g m k d j) e = absurd (box_any g m k e)
  framed_once _ _ (AValue f h c) (ABox g m k d j) e = absurd (box_no_value g f m k h e)
  framed_once _ _ (AStart f h c) (ABox g m k d j) e = absurd (box_no_piece g f m Start k h e)
  framed_once _ _ (OfLeader f n h c i) (ABox g m k d j) e = absurd (box_no_piece g f m (At n) k h e)
  framed_once _ _ (ABox f n h c i) AnyFrame e = absurd (box_any f n h (sym e))
  framed_once _ _ (ABox f n h c i) (AValue g k d) e = absurd (box_no_value f g n h k (sym e))
  framed_once _ _ (ABox f n h c i) (AStart g k d) e = absurd (box_no_piece f g n Start h k (sym e))
  framed_once _ _ (ABox f n h c i) (OfLeader g m k d j) e = absurd (box_no_piece f g n (At m) h k (sym e))
  framed_once _ _ (ABox f n h c i) (ABox g m k d j) e =
      let s = boxes_same g f m n k h (box_small g k m j) (box_small f h n i) e in
      ap (λ z. box_of (routine_of p z) m) s.0 ∙ ap (box_of (routine_of p f)) s.1
  framed_once _ _ (AValue f h c) AnyFrame e = absurd (value_any f h (sym e))
  framed_once _ _ (AValue f h c) (AValue g k d) e =
      let m = marked_is g.called f.called (codes "value") (codes "value") (unmarked ok g k) (unmarked ok f h) no_bar_value no_bar_value (sym (value_is g.called) ∙ e ∙ value_is f.called) in
      ap (λ z. value_struct z.called z.result) (one_function ok g f k h m.0)
  framed_once _ _ (AValue f h c) (AStart g k d) e = absurd (value_start f g Start h k (sym e))
  framed_once _ _ (AValue f h c) (OfLeader g m k d j) e = absurd (value_start f g (At m) h k (sym e))
  framed_once _ _ (AStart f h c) AnyFrame e = absurd (piece_any f Start h (sym e))
  framed_once _ _ (AStart f h c) (AValue g k d) e = absurd (value_start g f Start k h e)
  framed_once _ _ (AStart f h c) (AStart g k d) e = ap start_struct (pieces_same g f Start Start k h StartIsSmall StartIsSmall e).0
  framed_once _ _ (AStart f h c) (OfLeader g m k d j) e = absurd (let s = (pieces_same g f (At m) Start k h (small ok g (record { has = k; mode = d }) (At m) (ALeader m j)) StartIsSmall e).1 in cc)
  framed_once _ _ (OfLeader f n h c i) AnyFrame e = absurd (piece_any f (At n) h (sym e))
  framed_once _ _ (OfLeader f n h c i) (AValue g k d) e = absurd (value_start g f (At n) k h e)
  framed_once _ _ (OfLeader f n h c i) (AStart g k d) e = absurd (let s = (pieces_same g f Start (At n) k h StartIsSmall (small ok f (record { has = h; mode = c }) (At n) (ALeader n i)) e).1 in cc)
  framed_once _ _ (OfLeader f n h c i) (OfLeader g m k d j) e =
      let s = pieces_same g f (At m) (At n) k h (small ok g (record { has = k; mode = d }) (At m) (ALeader m j)) (small ok f (record { has = h; mode = c }) (At n) (ALeader n i)) e in
      let numbers : m ≡ n = cc in
      ap (λ z. leader_struct p (routine_of p z) m) s.0 ∙ ap (leader_struct p (routine_of p f)) numbers
