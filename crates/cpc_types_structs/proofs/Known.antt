-- The structs in scope, and what the definitions say of them.
use Rattle.std.proofs.Common.{◌≡◌, ℕ, ◌≤◌, true, false, List, ◌∷◌, length, map, take, reverse, Option, Some, None, option_map, refl, ap, sym, subst, ◌∙◌}
use Rattle.std.proofs.Math.Seq.{take-length}
use Rattle.cpc_tree.specs.Erase.{Names, item_of, field_of}
use Rattle.cpc_check_rules.specs.Apart.{AreApart}
use Rattle.cpc_base.specs.declared.names.Name.{Name}
use Rattle.cpc_tree.specs.Syntax.{TyStruct, Variable, Program}
use Rattle.cpc_tree.specs.Typing as T
use Rattle.cpc_tree.specs.declared.program.Item.{Item}
use Rattle.cpc_tree.specs.declared.program.Item.TheVariants as I
use Rattle.cpc_shapes.specs.Indexed.{is_name, last_below}
use Rattle.cpc_shapes.specs.Counted.{count, tag_of, size_at}
use Rattle.cpc_shapes.specs.Declaring.{item_at, fields_seen, fields_of}
use Rattle.cpc_shapes.proofs.Latest.{map_reverse, absent, found}
use Rattle.cpc_types_structs.specs.Structs.{AreStructs, AreAllStructs}
use Rattle.cpc_types_structs.specs.Sized.{capped, capped_size, declared_size, tag_place, tag_size, AreSizes}
use Rattle.cpc_types_structs.specs.declared.structs.Structs.{Structs}
use Rattle.cpc_types_structs.proofs.Entering.{within_all}

module _ (names : Names) (apart : AreApart names) where
  -- ---- sizes

  cells_in : Name → List Item → T.Cells
  cells_in tag rs = T.struct_cells (map (item_of names) rs) (names tag)

  cells_skip : (tag : Name) (y : Item) (ys : List Item) → is_name tag.0 (tag_of y) ≡ false → cells_in tag (y ∷ ys) ≡ cells_in tag ys
  unfolding cells_in
  cells_skip tag (I.Struct t fs) ys e = rw (apart.told t.name tag ∙ e) refl
  cells_skip tag _ ys e = refl

  cells_found : (tag : Name) (y : Item) (rs : List Item) (p : Program) → map (item_of names) rs ≡ reverse p → is_name tag.0 (tag_of y) ≡ true → option_map capped (count (cells_in tag (y ∷ rs))) ≡ declared_size names p y
  unfolding cells_in
  cells_found tag (I.Struct t fs) rs p e is = rw (apart.told t.name tag ∙ is) (ap (λ ys. option_map capped (count (T.fields_cells (T.struct_cells ys) (map (field_of names) fs.items)))) e)
  cells_found tag _ rs p e is = cc

  size_found : (xs : List Item) (s : Structs) (tag : Name) (n : ℕ) (o : Option ℕ) → AreStructs xs s → n ≤ length xs → last_below n (map tag_of xs) tag.0 ≡ o
      → size_at s.sizes.items o ≡ option_map capped (count (cells_in tag (reverse (take n xs))))
  unfolding cells_in
  size_found xs s tag n None d h e = ap (λ c. option_map capped (count c)) (sym (absent Item T.Cells tag_of (cells_in tag) tag.0 (cells_skip tag) xs n e))
  size_found xs s tag n (Some k) d h e =
      let f = found Item T.Cells tag_of (cells_in tag) tag.0 (cells_skip tag) xs n k h e in
      d.sized k f.item f.at names apart
      ∙ sym (cells_found tag f.item (reverse (take k xs)) (map (item_of names) (take k xs)) (map_reverse (item_of names) (take k xs)) f.is)
      ∙ ap (λ c. option_map capped (count c)) (sym f.same)

  size_known : (xs : List Item) (s : Structs) (tag : Name) → AreStructs xs s → tag_size s tag ≡ capped_size (map (item_of names) (take s.tags.count xs)) (TyStruct (names tag))
  unfolding cells_in
  size_known xs s tag d =
      let n = s.tags.count in
      ap (λ ks. size_at s.sizes.items (last_below n ks tag.0)) d.tags
      ∙ size_found xs s tag n (last_below n (map tag_of xs) tag.0) d (within_all xs s d) refl
      ∙ ap (λ ys. option_map capped (count (T.struct_cells ys (names tag)))) (map_reverse (item_of names) (take n xs))

  -- the sizes of the structs in scope
  pub sizes_known : (xs : List Item) (s : Structs) → AreStructs xs s → AreSizes s names (map (item_of names) (take s.tags.count xs))
  sizes_known xs s d = record { each = λ tag. size_known xs s tag d }

  -- the same, where all items are in scope
  pub all_known : (xs : List Item) (s : Structs) → AreAllStructs xs s → AreSizes s names (map (item_of names) xs)
  all_known xs s d =
      let all : take s.tags.count xs ≡ xs = ap (λ n. take n xs) d.all ∙ take-length xs in
      let P : List Item → Type 0 = λ ys. AreSizes s names (map (item_of names) ys) in
      subst P all (sizes_known xs s d.structs)

  -- ---- fields

  fields_in : Name → List Item → Option (List Variable)
  fields_in tag rs = T.fields_in (map (item_of names) rs) (names tag)

  fields_skip : (tag : Name) (y : Item) (ys : List Item) → is_name tag.0 (tag_of y) ≡ false → fields_in tag (y ∷ ys) ≡ fields_in tag ys
  unfolding fields_in
  fields_skip tag (I.Struct t fs) ys e = rw (apart.told t.name tag ∙ e) refl
  fields_skip tag _ ys e = refl

  fields_found : (tag : Name) (y : Item) (rs : List Item) → is_name tag.0 (tag_of y) ≡ true → fields_in tag (y ∷ rs) ≡ fields_seen names y
  unfolding fields_in
  fields_found tag (I.Struct t fs) rs is = rw (apart.told t.name tag ∙ is) refl
  fields_found tag _ rs is = cc

  fields_at : (xs : List Item) (tag : Name) (n : ℕ) (o : Option ℕ) → n ≤ length xs → last_below n (map tag_of xs) tag.0 ≡ o → fields_of names (item_at xs o) ≡ fields_in tag (reverse (take n xs))
  unfolding fields_in
  fields_at xs tag n None h e = sym (absent Item (Option (List Variable)) tag_of (fields_in tag) tag.0 (fields_skip tag) xs n e)
  fields_at xs tag n (Some k) h e =
      let f = found Item (Option (List Variable)) tag_of (fields_in tag) tag.0 (fields_skip tag) xs n k h e in
      ap (fields_of names) f.at ∙ sym (fields_found tag f.item (reverse (take k xs)) f.is) ∙ sym f.same

  -- the fields of a struct in scope
  pub fields_known : (xs : List Item) (s : Structs) (tag : Name) → AreStructs xs s → fields_of names (item_at xs (tag_place s tag)) ≡ T.fields (map (item_of names) (take s.tags.count xs)) (names tag)
  unfolding fields_in
  fields_known xs s tag d =
      let n = s.tags.count in
      ap (λ ks. fields_of names (item_at xs (last_below n ks tag.0))) d.tags
      ∙ fields_at xs tag n (last_below n (map tag_of xs) tag.0) (within_all xs s d) refl
      ∙ ap (λ ys. T.fields_in ys (names tag)) (map_reverse (item_of names) (take n xs))
