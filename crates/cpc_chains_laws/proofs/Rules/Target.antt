-- The event program of an accepted program breaks no rule, where the bodies of what is made break none.
use Rattle.std.proofs.Common.{◌≡◌, inl, inr, ⊎_elim, Bool, true, false, List, [], ◌∷◌, ◌++◌, map, bytes_eq, Some, refl, sym, ◌∙◌, ap, subst, append_assoc}
use Rattle.cpc_base.specs.Bytes.{Text}
use Rattle.cpc_base.specs.declared.stop.Dialect.TheVariants as D
use Rattle.cpc_num.specs.declared.kinds.Kind.TheVariants.{Int}
use Rattle.cpc_tree.specs.declared.program.Mode.TheVariants.{Native}
use Rattle.cpc_tree.specs.Located.{bare_item}
use Rattle.cpc_tree.specs.Syntax.{TyInt, Variable, Function, Item, StructItem, GlobalItem, PrototypeItem, FunctionItem, Program}
use Rattle.cpc_tree.specs.Typing.{fields, parameter_type}
use Rattle.cpc_check_rules.specs.ItemRules.{Signature, in_body, body_breaks, is_function, clashes, agrees, types, item_breaks}
use Rattle.cpc_check_laws.proofs.Native.OnePlace.{parameter_here, stmt_here, function_here, item_here}
use Rattle.cpc_meaning.proofs.Functions.{text_same, texts_differ, same_text}
use Rattle.cpc_convert_common.specs.Converted.{prototype, function_item}
use Rattle.cpc_convert_common.specs.Members.{Has, OnTop, Below}
use Rattle.cpc_convert_common.proofs.Members.{has_left, has_right, has_either}
use Rattle.cpc_chains_store_laws.specs.Driver.{drive_name, drive_function, frame_tag, head_fields}
use Rattle.cpc_convert_flat_laws.specs.Structs.{NoStruct, NoneHere, NotThis}
use Rattle.cpc_convert_flat_laws.proofs.Structs.{struct_fields}
use Rattle.cpc_convert_routines.specs.Kept.{kept_items, routines}
use Rattle.cpc_chains_event.specs.Converted.{all_structs, all_boxes, all_made, converted}
use Rattle.cpc_chains_event.proofs.Framed.{tag_of}
use Rattle.cpc_chains_event.proofs.Structs.{all_boxes_are}
use Rattle.cpc_chains_event.proofs.Made.{Made, MadeSpawner, MadePiece, made_is, made_one_name}
use Rattle.cpc_chains_laws.specs.Rules.Laws.{Knows, BodyFine, BodiesFine}
use Rattle.cpc_chains_laws.proofs.Rules.FunctionRows.{HeadFine, head_fine, agrees_itself, prototype_fine, definition_fine}
use Rattle.cpc_lifted_laws.proofs.Rules.Items.{Declares, Beside, beside_all, no_item}
use Rattle.cpc_chains_laws.proofs.Rules.Kept.{KeptItem, kept_has}
use Rattle.cpc_chains_laws.proofs.Rules.KeptRows.{Source, beside_other}
use Rattle.cpc_chains_laws.proofs.Rules.Known.{knows}
use Rattle.cpc_chains_laws.proofs.Rules.Made.{called, made_once}
use Rattle.cpc_chains_laws.proofs.Rules.Parts.{frames, prototypes, driver, definitions, front_of, before_made, whole, frames_are, structs_declare, From, IsFrom, from_map, made_marked, driver_apart, kept_name}
use Rattle.cpc_lifted_laws.proofs.Rules.Rows.{rows, each_row, row_more, once_front, has_at, Once, AndOnce}
use Rattle.cpc_lifted_laws.proofs.Rules.Source.{signature}
use Rattle.cpc_chains_laws.proofs.Rules.Tags.{frames_once}

-- ---- rows that are mapped from lists

-- an item of such a row, and what stands before it
pub record MapAt {A B : Type 0} (F : A → B) (xs : List A) (front : List B) (y : B) : Type 0 where
  pub before : List A
  pub it : A
  pub after : List A
  pub is : xs ≡ before ++ it ∷ after
  pub front_is : front ≡ map F before
  pub y_is : y ≡ F it

later : {A B : Type 0} (F : A → B) (x : A) (xs : List A) (z : B) (front : List B) (y : B) → F x ≡ z → MapAt F xs front y → MapAt F (x ∷ xs) (z ∷ front) y
later F x xs z front y s r = record {
  before = x ∷ r.before;
  it = r.it;
  after = r.after;
  is = ap (λ zs. x ∷ zs) r.is;
  front_is = ap (λ zs. z ∷ zs) r.front_is ∙ ap (λ u. u ∷ map F r.before) (sym s);
  y_is = r.y_is;
}

pub map_split : {A B : Type 0} (F : A → B) (xs : List A) (front back : List B) (y : B) → map F xs ≡ front ++ y ∷ back → MapAt F xs front y
map_split F [] [] back y e = absurd (cc)
map_split F [] (z ∷ front) back y e = absurd (cc)
map_split F (x ∷ xs) [] back y e = record { before = []; it = x; after = xs; is = refl; front_is = refl; y_is = let s : F x ≡ y = cc in sym s }
map_split F (x ∷ xs) (z ∷ front) back y e = later F x xs z front y (cc) (map_split F xs front back y (cc))

pub no_struct_data : (tag : Text) (xs : Program) → ((fs : List Variable) → Has (StructItem tag fs) xs → ⊥) → NoStruct tag xs
no_struct_data tag [] h = NoneHere
no_struct_data tag (StructItem t fs ∷ xs) h = NotThis _ xs (texts_differ t tag (λ (e : t ≡ tag). h fs (subst (λ u. Has (StructItem u fs) (StructItem t fs ∷ xs)) e (OnTop _ xs)))) (no_struct_data tag xs (λ gs k. h gs (Below _ _ xs k)))
no_struct_data tag (GlobalItem x t s ∷ xs) h = NotThis _ xs refl (no_struct_data tag xs (λ gs k. h gs (Below _ _ xs k)))
no_struct_data tag (PrototypeItem m f r ps ∷ xs) h = NotThis _ xs refl (no_struct_data tag xs (λ gs k. h gs (Below _ _ xs k)))
no_struct_data tag (FunctionItem f ∷ xs) h = NotThis _ xs refl (no_struct_data tag xs (λ gs k. h gs (Below _ _ xs k)))

module _ (p : Program) (source : Source p) where
  abbrev made : List Function
  made = all_made p (routines p)

  other_name : (a b : List Function) (g : Function) → made ≡ a ++ g ∷ b → (h : Function) → Has h a → bytes_eq h.called g.called ≡ true → ⊥
  other_name a b g e h k d = once_front called a b g (subst (Once called) e (made_once p source.named source.fine)) h k (same_text h.called g.called d)

  head : (g : Function) → Has g made → HeadFine g
  head g h = head_fine p source g (made_is p p g h)

  native : (g : Function) → Has g made → g.mode ≡ Native
  native g h = (head g h).native

  -- ---- prototypes

  none_declared : (a b : List Function) (g : Function) → made ≡ a ++ g ∷ b → (i : Item) → Has i (frames p (routines p) ++ map prototype a) → Declares g.called i → ⊥
  none_declared a b g e i h d = ⊎_elim (λ k. structs_declare g.called (frames p (routines p)) (frames_are p) i k d) (λ k. go i (from_map prototype a i k) d) (has_either i (frames p (routines p)) (map prototype a) h)
    where
      go : (i : Item) → From prototype a i → Declares g.called i → ⊥
      go _ (IsFrom h k) d = other_name a b g e h k d

  pub prototype_rows : (q : Program) → ((g : Function) → Has g made → is_function g.called q ≡ true) → rows D.Event q (frames p (routines p)) (prototypes p (routines p)) ≡ []
  prototype_rows q defined = each_row D.Event q (frames p (routines p)) (prototypes p (routines p)) (λ front x back e. go front x (map_split prototype made front back x e))
    where
      row : (a b : List Function) (g : Function) → made ≡ a ++ g ∷ b → item_breaks D.Event q (frames p (routines p) ++ map prototype a) (item_here (prototype g)) ≡ []
      row a b g e =
          let has : Has g made = subst (Has g) (sym e) (has_at a b g) in
          let before = frames p (routines p) ++ map prototype a in
          let new = signature g.mode g.result g.parameters false in
          let all = beside_all g.called new before (λ i h. beside_other g.called new i (none_declared a b g e i h)) in
          prototype_fine q before g (head g has) (no_item g.called before (none_declared a b g e)) all.0 all.1 (defined g has)

      go : (front : Program) (x : Item) → MapAt prototype made front x → item_breaks D.Event q (frames p (routines p) ++ front) (item_here x) ≡ []
      go front x m =
          subst (λ y. item_breaks D.Event q (frames p (routines p) ++ front) (item_here y) ≡ []) (sym m.y_is)
          (subst (λ ys. item_breaks D.Event q (frames p (routines p) ++ ys) (item_here (prototype m.it)) ≡ []) (sym m.front_is) (row m.before m.after m.it m.is))

  -- ---- the driver

  driver_head : HeadFine drive_function
  driver_head = record { native = refl; free = refl; parameters = refl; sized = λ s. refl }

  abbrev before_driver : Program
  before_driver = frames p (routines p) ++ prototypes p (routines p)

  frame_fields : fields (before_driver ++ bare_item (item_here (FunctionItem drive_function)) ∷ []) frame_tag ≡ Some (head_fields (TyInt Int) [])
  frame_fields = struct_fields [] ((all_structs p (routines p) ++ prototypes p (routines p)) ++ FunctionItem drive_function ∷ []) frame_tag (head_fields (TyInt Int) [])
      (no_struct_data frame_tag _ (λ fs h. ⊎_elim (λ a. ⊎_elim (λ b. first fs b (frames_once p source.named source.fine)) (λ b. none fs made b) (has_either (StructItem frame_tag fs) (all_structs p (routines p)) (prototypes p (routines p)) a)) (λ a. last fs a)
      (has_either (StructItem frame_tag fs) (all_structs p (routines p) ++ prototypes p (routines p)) driver h)))
    where
      first : (fs : List Variable) → Has (StructItem frame_tag fs) (all_structs p (routines p)) → Once tag_of (frames p (routines p)) → ⊥
      first fs h (AndOnce _ _ apart o) = apart (StructItem frame_tag fs) h refl

      none : (fs : List Variable) (gs : List Function) → Has (StructItem frame_tag fs) (map prototype gs) → ⊥
      none fs [] h = elim h [ ]
      none fs (g ∷ gs) (Below _ _ _ h) = none fs gs h

      last : (fs : List Variable) → Has (StructItem frame_tag fs) driver → ⊥
      last fs (Below _ _ _ h) = elim h [ ]

  driver_body : body_breaks (in_body D.Event before_driver (function_here drive_function)) (stmt_here drive_function.body) ≡ []
  driver_body = simp (frame_fields) refl

  not_driver : (i : Item) → Has i before_driver → Declares drive_name i → ⊥
  not_driver i h d = ⊎_elim (λ k. structs_declare drive_name (frames p (routines p)) (frames_are p) i k d) (λ k. go i (from_map prototype made i k) d) (has_either i (frames p (routines p)) (prototypes p (routines p)) h)
    where
      go : (i : Item) → From prototype made i → Declares drive_name i → ⊥
      go _ (IsFrom g k) d = let z : true ≡ false = sym (text_same drive_name) ∙ sym (ap (bytes_eq drive_name) (same_text g.called drive_name d)) ∙ driver_apart p source.names source.named g k in absurd (cc)

  pub driver_row : (q : Program) → rows D.Event q before_driver driver ≡ []
  driver_row q =
      let new = signature Native drive_function.result drive_function.parameters true in
      let all = beside_all drive_name new before_driver (λ i h. beside_other drive_name new i (not_driver i h)) in
      row_more D.Event q before_driver (FunctionItem drive_function) []
      (definition_fine q before_driver drive_function driver_head all.0 all.1 (record { body = driver_body; names = refl; labelled = refl; stray = refl; few = refl })) refl

  -- ---- definitions

  -- beside the prototype of what is made it may be defined
  beside_own : (g h : Function) → Has g made → Has h made → (b : Bool) → bytes_eq h.called g.called ≡ b → Beside g.called (signature g.mode g.result g.parameters true) (prototype h)
  beside_own g h i j false e = inl e
  beside_own g h i j true e =
      let same = made_one_name p source.named g i h j e in
      let new = signature g.mode g.result g.parameters true in
      inr (
        ap (λ m. clashes (record { mode = g.mode; result = g.result; parameters = types (map parameter_here g.parameters); is_defined = true }) m false) (native h j) ∙ ap (λ m. clashes (record { mode = m; result = g.result; parameters = types (map parameter_here g.parameters); is_defined = true }) Native false) (native g i),
        subst (λ (f : Function). agrees new f.mode f.result (map parameter_type f.parameters) ≡ true) (sym same) (agrees_itself g true (native g i)),
      )

  beside_made : (a b : List Function) (g : Function) → made ≡ a ++ g ∷ b → (i : Item) → Has i (before_made p (routines p) ++ map function_item a) → Beside g.called (signature g.mode g.result g.parameters true) i
  beside_made a b g e i h =
      ⊎_elim (λ k. ⊎_elim (λ l. ⊎_elim (λ m. in_front i m) (λ m. in_kept i (kept_has p i m)) (has_either i (front_of p (routines p)) (kept_items p) l)) (λ l. beside_other g.called new i (λ d. structs_declare g.called (all_boxes (routines p)) (all_boxes_are (routines p)) i l d))
      (has_either i (front_of p (routines p) ++ kept_items p) (all_boxes (routines p)) k))
      (λ k. beside_other g.called new i (λ d. definition i (from_map function_item a i k) d)) (has_either i (before_made p (routines p)) (map function_item a) h)
    where
      new : Signature
      new = signature g.mode g.result g.parameters true

      has : Has g made
      has = subst (Has g) (sym e) (has_at a b g)

      definition : (i : Item) → From function_item a i → Declares g.called i → ⊥
      definition _ (IsFrom h k) d = other_name a b g e h k d

      proto : (i : Item) → From prototype made i → Beside g.called new i
      proto _ (IsFrom h k) = beside_own g h has k (bytes_eq h.called g.called) refl

      the_driver : (i : Item) → Has i driver → Beside g.called new i
      the_driver _ (OnTop _ _) = inl (driver_apart p source.names source.named g has)
      the_driver i (Below _ _ _ h) = elim h [ ]

      in_front : (i : Item) → Has i (front_of p (routines p)) → Beside g.called new i
      in_front i h =
          ⊎_elim (λ k. ⊎_elim (λ l. beside_other g.called new i (λ d. structs_declare g.called (frames p (routines p)) (frames_are p) i l d)) (λ l. proto i (from_map prototype made i l)) (has_either i (frames p (routines p)) (prototypes p (routines p)) k))
          (λ k. the_driver i k) (has_either i (frames p (routines p) ++ prototypes p (routines p)) driver h)

      in_kept : (i : Item) → (x : Item) × Has x p × KeptItem x i → Beside g.called new i
      in_kept i k = beside_other g.called new i (λ d. let z : true ≡ false = sym (made_marked p source.names source.named g has) ∙ (kept_name p source.names source.named k.0 i g.called k.1 k.2 d).0 in absurd (cc))

  module _ (is : converted p ≡ whole p (routines p)) (bodies : BodiesFine p) where
    body_fine : (g : Function) → Made p p g → (before : Program) → Knows p (before ++ function_item g ∷ []) → BodyFine before g
    body_fine _ (MadePiece f l h c o) before k = bodies.pieces f (record { has = h; mode = c }) l o before k
    body_fine _ (MadeSpawner f h c) before k = bodies.spawners f (record { has = h; mode = c }) before k

    pub definition_rows : (q : Program) → rows D.Event q (before_made p (routines p)) (definitions p (routines p)) ≡ []
    definition_rows q = each_row D.Event q (before_made p (routines p)) (definitions p (routines p)) (λ front x back e. go front x (map_split function_item made front back x e))
      where
        row : (a b : List Function) (g : Function) → made ≡ a ++ g ∷ b → item_breaks D.Event q (before_made p (routines p) ++ map function_item a) (item_here (function_item g)) ≡ []
        row a b g e =
            let has : Has g made = subst (Has g) (sym e) (has_at a b g) in
            let before = before_made p (routines p) ++ map function_item a in
            let all = beside_all g.called (signature g.mode g.result g.parameters true) before (beside_made a b g e) in
            let up : (h : Function) → Has h (a ++ g ∷ []) → Has h made = λ h k. subst (Has h) (sym e) (⊎_elim (λ l. has_left h a (g ∷ b) l) (λ l. has_right h a (g ∷ b) (one h g l b)) (has_either h a (g ∷ []) k)) in
            let more : before_made p (routines p) ++ map function_item (a ++ g ∷ []) ≡ before ++ function_item g ∷ [] = ap (λ ys. before_made p (routines p) ++ ys) (map_last a g) ∙ sym (append_assoc (before_made p (routines p)) (map function_item a) (function_item g ∷ [])) in
            definition_fine q before g (head g has) all.0 all.1 (body_fine g (made_is p p g has) before (subst (Knows p) more (knows p source (a ++ g ∷ []) up is)))
          where
            one : (h g : Function) → Has h (g ∷ []) → (b : List Function) → Has h (g ∷ b)
            one _ _ (OnTop h _) b = OnTop h b
            one h g (Below _ _ _ k) b = elim k [ ]

            map_last : (a : List Function) (g : Function) → map function_item (a ++ g ∷ []) ≡ map function_item a ++ function_item g ∷ []
            map_last [] g = refl
            map_last (f ∷ a) g = ap (λ ys. function_item f ∷ ys) (map_last a g)

        go : (front : Program) (x : Item) → MapAt function_item made front x → item_breaks D.Event q (before_made p (routines p) ++ front) (item_here x) ≡ []
        go front x m =
            subst (λ y. item_breaks D.Event q (before_made p (routines p) ++ front) (item_here y) ≡ []) (sym m.y_is)
            (subst (λ ys. item_breaks D.Event q (before_made p (routines p) ++ ys) (item_here (function_item m.it)) ≡ []) (sym m.front_is) (row m.before m.after m.it m.is))
