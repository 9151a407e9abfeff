-- What the items in scope say of a name, by the last of them that declares it.
use Rattle.std.proofs.Common.{◌≡◌, ℕ, ◌≤◌, true, false, List, ◌∷◌, length, map, take, reverse, Option, Some, None, refl, ap, sym, subst, ◌∙◌}
use Rattle.cpc_tree.specs.Erase.{Names, item_of}
use Rattle.cpc_check_rules.specs.Apart.{AreApart}
use Rattle.cpc_base.specs.declared.names.Name.{Name}
use Rattle.cpc_tree.specs.Typing as T
use Rattle.cpc_tree.specs.declared.program.Item.{Item}
use Rattle.cpc_tree.specs.declared.program.Item.TheVariants as I
use Rattle.cpc_check_rules.specs.Scopes as R
use Rattle.cpc_shapes.specs.Indexed.{is_name, last_below}
use Rattle.cpc_types.specs.Declaring.{AreDeclared}
use Rattle.cpc_types_structs.specs.Sized.{AreSizes, tag_place}
use Rattle.cpc_shapes.specs.Counted.{name_of}
use Rattle.cpc_shapes.specs.Declaring.{item_at, meaning, meaning_of, fields_of}
use Rattle.cpc_types.specs.declared.items.Items.{Items}
use Rattle.cpc_shapes.proofs.Latest.{map_reverse, absent, found}
use Rattle.cpc_types_structs.proofs.Known as K

module _ (names : Names) (apart : AreApart names) where
  -- the sizes of the structs in scope
  pub sizes_known : (xs : List Item) (i : Items) → AreDeclared xs i → AreSizes i.declared.structs names (map (item_of names) (take i.names.count xs))
  sizes_known xs i d = subst (λ n. AreSizes i.declared.structs names (map (item_of names) (take n xs))) d.together (K.sizes_known names apart xs i.declared.structs d.declares.structs)

  -- ---- names

  meant_in : Name → List Item → T.Meant
  meant_in x rs = R.in_items (map (item_of names) rs) (names x)

  meant_skip : (x : Name) (y : Item) (ys : List Item) → is_name x.0 (name_of y) ≡ false → meant_in x (y ∷ ys) ≡ meant_in x ys
  unfolding meant_in
  meant_skip x (I.Struct t fs) ys e = refl
  meant_skip x (I.Global w t start) ys e = rw (apart.told w.name x ∙ e) refl
  meant_skip x (I.Prototype p mode w r ps) ys e = rw (apart.told w.name x ∙ e) refl
  meant_skip x (I.Function f) ys e = rw (apart.told f.word.name x ∙ e) refl

  meant_found : (x : Name) (y : Item) (rs : List Item) → is_name x.0 (name_of y) ≡ true → meant_in x (y ∷ rs) ≡ meaning names y
  unfolding meant_in
  meant_found x (I.Struct t fs) rs is = cc
  meant_found x (I.Global w t start) rs is = rw (apart.told w.name x ∙ is) refl
  meant_found x (I.Prototype p mode w r ps) rs is = rw (apart.told w.name x ∙ is) refl
  meant_found x (I.Function f) rs is = rw (apart.told f.word.name x ∙ is) refl

  meant_at : (xs : List Item) (x : Name) (n : ℕ) (o : Option ℕ) → n ≤ length xs → last_below n (map name_of xs) x.0 ≡ o → meaning_of names (item_at xs o) ≡ meant_in x (reverse (take n xs))
  unfolding meant_in
  meant_at xs x n None h e = sym (absent Item T.Meant name_of (meant_in x) x.0 (meant_skip x) xs n e)
  meant_at xs x n (Some k) h e =
      let f = found Item T.Meant name_of (meant_in x) x.0 (meant_skip x) xs n k h e in
      ap (meaning_of names) f.at ∙ sym (meant_found x f.item (reverse (take k xs)) f.is) ∙ sym f.same

  -- what a name stands for among the items in scope
  pub meant_known : (xs : List Item) (i : Items) (x : Name) → AreDeclared xs i → i.names.count ≤ length xs
      → meaning_of names (item_at xs (last_below i.names.count i.names.names.items x.0)) ≡ R.in_items (reverse (map (item_of names) (take i.names.count xs))) (names x)
  unfolding meant_in
  meant_known xs i x d h =
      let n = i.names.count in
      ap (λ ks. meaning_of names (item_at xs (last_below n ks x.0))) d.names
      ∙ meant_at xs x n (last_below n (map name_of xs) x.0) h refl
      ∙ ap (λ ys. R.in_items ys (names x)) (map_reverse (item_of names) (take n xs))

  -- ---- fields

  -- the fields of a struct in scope
  pub fields_known : (xs : List Item) (i : Items) (tag : Name) → AreDeclared xs i → fields_of names (item_at xs (tag_place i.declared.structs tag)) ≡ T.fields (map (item_of names) (take i.names.count xs)) (names tag)
  fields_known xs i tag d = K.fields_known names apart xs i.declared.structs tag d.declares.structs ∙ ap (λ n. T.fields (map (item_of names) (take n xs)) (names tag)) d.together
