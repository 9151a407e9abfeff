-- An event program has the structs of its source, and those of boxes, each as large as its variable.
use Rattle.std.proofs.Common.{◌≡◌, ℕ, ◌+◌, Bool, true, false, cond, List, [], ◌∷◌, ◌++◌, map, reverse, length, Some, None, refl, sym, ◌∙◌, ap, subst}
use Rattle.cpc_base.specs.Bytes.{Text}
use Rattle.cpc_tree.specs.Syntax.{Ty, Variable, Function, Item, StructItem, GlobalItem, PrototypeItem, FunctionItem, Program}
use Rattle.cpc_tree.specs.Typing.{◌>>=◌, Cells, both, cells_in, struct_cells, size, field_from, function_named}
use Rattle.cpc_meaning.specs.Start.{main_name}
use Rattle.cpc_meaning.specs.Threads.{is_cps_mode, is_cps}
use Rattle.cpc_meaning.proofs.Functions.{text_same}
use Rattle.cpc_convert_common.specs.Marks.{has_marks}
use Rattle.cpc_convert_common.specs.Converted.{function_item, prototype}
use Rattle.cpc_convert_common.specs.Members.{Has, OnTop, Below}
use Rattle.cpc_convert_image_laws.specs.Relations.{Less, AsIs, Extends}
use Rattle.cpc_convert_image_laws.proofs.Options.{less_then}
use Rattle.cpc_convert_flat_laws.specs.Structs.{NoStruct, NoneHere, NotThis}
use Rattle.cpc_chains_store_laws.specs.Driver.{drive_function}
use Rattle.cpc_convert_flat_laws.proofs.Structs.{no_struct_append, struct_fields, struct_is}
use Rattle.cpc_convert_routines.specs.Names.{box_tag}
use Rattle.cpc_convert_routines.specs.Routines.{Routine, routine_of, variable_of}
use Rattle.cpc_chains_event.specs.Frames.{any_frame, start_struct, box_of}
use Rattle.cpc_convert_routines.specs.Kept.{kept_function, item_unless, kept_items, routines}
use Rattle.cpc_chains_event.specs.Converted.{all_structs, all_boxes, all_made, main_if, converted_with, converted}
use Rattle.cpc_convert_routines.specs.Named.{IsUnmarked, IsNamed, IsCps}
use Rattle.cpc_chains_event.specs.StructLaws.{IsBox, StructsAreThere}
use Rattle.cpc_chains_event.proofs.Apart.{frame_is}
use Rattle.cpc_chains_event.proofs.Structs.{AreStructs, NoneAre, OneIs, all_structs_are, all_boxes_are}
use Rattle.cpc_chains_event.proofs.FrameStructs.{one_struct}
use Rattle.cpc_chains_event.proofs.Framed.{ABox, boxed_is, boxed_has, has_box, framed_has, has_start, framed_once}
use Rattle.cpc_chains_event.proofs.Extending.{is_struct, Beyond, BothEnd, BothHave, OneMore, LeftHas, RightHas, beyond_append, beyond_more, beyond_structs, cells_there, extending}
use Rattle.cpc_chains_event.proofs.StructsThere.{behind_boxes, with_structs, any_there, value_there, start_there, leader_there}

-- ---- items that are no structs

no_structs_map : (F : Function → Item) → ((f : Function) → is_struct (F f) ≡ false) → (fs : List Function) → Beyond [] (map F fs)
no_structs_map F h [] = BothEnd
no_structs_map F h (f ∷ fs) = RightHas (F f) [] (map F fs) (h f) (no_structs_map F h fs)

main_is_none : (b : Bool) → Beyond [] (main_if b)
main_is_none true = RightHas _ [] [] refl BothEnd
main_is_none false = BothEnd

-- the items that stay
beyond_kept : (its : List Item) → ((item : Item) → Has item its → IsUnmarked item) → Beyond its (kept_items its)
beyond_kept [] h = BothEnd
beyond_kept (StructItem tag fs ∷ its) h = BothHave tag fs its (kept_items its) (h (StructItem tag fs) (OnTop _ _)) (beyond_kept its (λ item k. h item (Below _ _ _ k)))
beyond_kept (GlobalItem x t s ∷ its) h = LeftHas _ its _ refl (RightHas _ its (kept_items its) refl (beyond_kept its (λ item k. h item (Below _ _ _ k))))
beyond_kept (PrototypeItem m f r ps ∷ its) h = go (is_cps_mode m) (beyond_kept its (λ item k. h item (Below _ _ _ k)))
  where
    go : (b : Bool) → Beyond its (kept_items its) → Beyond (PrototypeItem m f r ps ∷ its) (item_unless b (PrototypeItem m f r ps) (kept_items its))
    go true g = LeftHas _ its (kept_items its) refl g
    go false g = LeftHas _ its _ refl (RightHas _ its (kept_items its) refl g)
beyond_kept (FunctionItem f ∷ its) h = go (is_cps_mode f.mode) (beyond_kept its (λ item k. h item (Below _ _ _ k)))
  where
    go : (b : Bool) → Beyond its (kept_items its) → Beyond (FunctionItem f ∷ its) (item_unless b (FunctionItem (kept_function f)) (kept_items its))
    go true g = LeftHas _ its (kept_items its) refl g
    go false g = LeftHas _ its _ refl (RightHas _ its (kept_items its) refl g)

-- ---- the program up to its boxes

append_assoc : (xs ys zs : List Item) → (xs ++ ys) ++ zs ≡ xs ++ (ys ++ zs)
append_assoc [] ys zs = refl
append_assoc (x ∷ xs) ys zs = ap (λ us. x ∷ us) (append_assoc xs ys zs)

-- what stands before these items
abbrev before_boxes : Program → List Routine → List Item → List Item
before_boxes p rs rest = any_frame ∷ (all_structs p rs ++ (map prototype (all_made p rs) ++ FunctionItem drive_function ∷ (kept_items p ++ rest)))

before_append : (p : Program) (rs : List Routine) (xs ys : List Item) → before_boxes p rs (xs ++ ys) ≡ before_boxes p rs xs ++ ys
before_append p rs xs ys =
    let ks = kept_items p in
    let ms = map prototype (all_made p rs) in
    let ss = all_structs p rs in
    ap (λ us. any_frame ∷ us)
    (ap (λ us. ss ++ (ms ++ FunctionItem drive_function ∷ us)) (sym (append_assoc ks xs ys))
    ∙ (ap (λ us. ss ++ us) (sym (append_assoc ms (FunctionItem drive_function ∷ (ks ++ xs)) ys))
    ∙ sym (append_assoc ss (ms ++ FunctionItem drive_function ∷ (ks ++ xs)) ys)))

module _ (p : Program) (ok : IsNamed p) where
  -- with some boxes behind it, it has the structs of the source
  beyond_before : (rs : List Routine) (boxes : List Item) → Beyond [] boxes → Beyond p (before_boxes p rs boxes)
  beyond_before rs boxes h =
      OneMore _ _ p _ (ap has_marks frame_is ∙ refl)
      (beyond_append [] (all_structs p rs) p _ (beyond_structs (all_structs p rs) (all_structs_are p rs))
      (beyond_append [] (map prototype (all_made p rs)) p _ (no_structs_map prototype (λ f. refl) (all_made p rs))
      (RightHas (FunctionItem drive_function) p _ refl (beyond_more p (kept_items p) boxes (beyond_kept p ok.unmarked) h))))

  beyond_behind : (rs : List Routine) → Beyond [] (behind_boxes p rs)
  beyond_behind rs = beyond_more [] (map function_item (all_made p rs)) _ (no_structs_map function_item (λ f. refl) (all_made p rs)) (main_is_none (is_cps (function_named p main_name)))

  -- all of it has them
  pub types_there : Extends p (converted p)
  types_there = extending p (converted p) (go (routines p))
    where
      go : (rs : List Routine) → Beyond p (converted_with p rs)
      go [] = beyond_kept p ok.unmarked
      go (r ∷ rs) = beyond_before (r ∷ rs) _ (beyond_more [] (all_boxes (r ∷ rs)) _ (beyond_structs (all_boxes (r ∷ rs)) (all_boxes_are (r ∷ rs))) (beyond_behind (r ∷ rs)))

  -- ---- boxes

  none_behind : (F : Function → Item) (tag : Text) → ((f : Function) → NoStruct tag (F f ∷ [])) → (fs : List Function) → NoStruct tag (map F fs)
  none_behind F tag h [] = NoneHere
  none_behind F tag h (f ∷ fs) = no_struct_append tag (F f ∷ []) (map F fs) (h f) (none_behind F tag h fs)

  none_main : (tag : Text) (b : Bool) → NoStruct tag (main_if b)
  none_main tag true = NotThis _ [] refl NoneHere
  none_main tag false = NoneHere

  front_structs : (xs : List Item) (x : Item) (ys : List Item) → AreStructs (xs ++ x ∷ ys) → AreStructs xs
  front_structs [] x ys h = NoneAre
  front_structs (_ ∷ xs) x ys (OneIs tag fs its m h) = OneIs tag fs xs m (front_structs xs x ys h)

  append_nil : (xs : List Ty) → xs ++ [] ≡ xs
  append_nil [] = refl
  append_nil (x ∷ xs) = ap (λ ys. x ∷ ys) (append_nil xs)

  -- the size of a row of one
  one_size : (a : Cells) → (both a (Some []) >>= λ xs. Some (length xs)) ≡ (a >>= λ xs. Some (length xs))
  one_size None = refl
  one_size (Some xs) = ap (λ ys. Some (length ys)) (append_nil xs)

  -- the field of a row of one
  one_field : (q : Program) (x : Variable) → field_from q 0 (x ∷ []) x.called ≡ Some (0, x.type)
  one_field q x = ap (λ b. cond b (Some (0, x.type)) (size q x.type >>= λ k. field_from q (0 + k) [] x.called)) (text_same x.called)

  pub box_there : (f : Function) → IsCps p f → (k : ℕ) → Has k (routine_of p f).boxes → IsBox p (converted p) (box_tag f.called k) (variable_of (routine_of p f) k)
  box_there f c k h =
      let x = variable_of (routine_of p f) k in
      let tag = box_tag f.called k in
      let rs = routines p in
      let there = boxed_has p p f (box_of (routine_of p f) k) c.has c.mode (has_box p f k h) in
      let one = one_struct tag (x ∷ []) (all_boxes rs) there (λ gs g. let same = framed_once p ok (StructItem tag (x ∷ [])) (StructItem tag gs) (ABox f k c.has c.mode h) (boxed_is p p (StructItem tag gs) g) refl in cc) in
      let front = before_boxes p rs one.front in
      let back = one.back ++ behind_boxes p rs in
      let none : NoStruct tag back = no_struct_append tag one.back (behind_boxes p rs) one.none (no_struct_append tag (map function_item (all_made p rs)) _ (none_behind function_item tag (λ g. NotThis _ [] refl NoneHere) (all_made p rs)) (none_main tag (is_cps (function_named p main_name)))) in
      let some = framed_has p p f (start_struct f) c.has c.mode (has_start p f) in
      let whole : converted p ≡ front ++ StructItem tag (x ∷ []) ∷ back =
      with_structs p rs (start_struct f) some
      ∙ (ap (λ bs. before_boxes p rs (bs ++ behind_boxes p rs)) one.is_items
      ∙ (ap (before_boxes p rs) (append_assoc one.front (StructItem tag (x ∷ []) ∷ one.back) (behind_boxes p rs)) ∙ before_append p rs one.front (StructItem tag (x ∷ []) ∷ back))) in
      let first = beyond_before rs one.front (beyond_structs one.front (front_structs one.front (StructItem tag (x ∷ [])) one.back (subst AreStructs one.is_items (all_boxes_are rs)))) in
      subst (λ q. IsBox p q tag x) (sym whole) (record {
        field = ap (λ o. o >>= λ fs. field_from (front ++ StructItem tag (x ∷ []) ∷ back) 0 fs x.called) (struct_fields front back tag (x ∷ []) none) ∙ one_field (front ++ StructItem tag (x ∷ []) ∷ back) x;
        size = subst (Less (size p x.type)) (sym (one_size (cells_in (struct_cells (reverse front)) x.type)) ∙ ap (λ o. o >>= λ xs. Some (length xs)) (sym (struct_is front back tag (x ∷ []) none)))
            (less_then _ _ _ _ (cells_there p front first x.type) λ xs. AsIs _);
      })

pub structs_there : StructsAreThere
structs_there p ok = record { types = types_there p ok; any = any_there p ok; value = value_there p ok; start = start_there p ok; leader = leader_there p ok; box = box_there p ok }
