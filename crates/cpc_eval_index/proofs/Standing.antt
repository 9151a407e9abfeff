-- Where structs stand, and that the ends of a table have the cells of their structs.
use Rattle.std.proofs.Common.{◌≡◌, ℕ, zero, suc, ◌+◌, ◌-◌, ◌<◌, ◌≤◌, ◌==◌, Bool, true, false, if◌then◌else◌, inl, inr, List, [], ◌∷◌, length, get_or, map, take, reverse, Option, Some, None, option_map, refl, ap, sym, ◌∙◌, add-one, arith}
use Rattle.std.specs.Prelude.{slice_get}
use Rattle.std.proofs.lemmas.Bool.{cases_lt}
use Rattle.std.proofs.lemmas.List.{append-nil, length-map, length-reverse, take-map}
use Rattle.std.proofs.lemmas.Option.{slice_get_within, slice_get-get_or, slice_get-map}
use Rattle.cpc_base.proofs.Lists.{found_within}
use Rattle.cpc_base.proofs.Truth.{eq_means}
use Rattle.cpc_base.specs.declared.names.Name.{Name}
use Rattle.cpc_tree.specs.Erase.{Names, type_of, field_of, item_of}
use Rattle.cpc_tree.specs.Syntax as S
use Rattle.cpc_tree.specs.Typing as T
use Rattle.cpc_tree.specs.Typing.{◌>>=◌}
use Rattle.cpc_tree.specs.declared.program.CType.{CType}
use Rattle.cpc_tree.specs.declared.program.CType.TheVariants as C
use Rattle.cpc_tree.specs.declared.program.Field.{Field}
use Rattle.cpc_tree.specs.declared.program.Item.{Item}
use Rattle.cpc_tree.specs.declared.program.Item.TheVariants as I
use Rattle.cpc_check_rules.specs.Apart.{AreApart}
use Rattle.cpc_shapes.specs.Counted.{tag_of}
use Rattle.cpc_shapes.specs.Indexed.{is_name, latest, last_below}
use Rattle.cpc_shapes.proofs.Indexes.{below_next}
use Rattle.cpc_shapes.proofs.Latest.{map_reverse, absent, found}
use Rattle.cpc_types_structs.specs.Sized.{tag_place}
use Rattle.cpc_types_structs.specs.Structs.{AreAllStructs}
use Rattle.cpc_types_structs.specs.declared.structs.Structs.{Structs}
use Rattle.cpc_eval_index.specs.Placed.{last_place}
use Rattle.cpc_eval_index.specs.Ends.{items_before, declared_cells, cells_at, same_struct, only_field, only_struct, place_if, inner_place}

-- ---- places

latest_below : (x : ℕ) (ks : List (Option Name)) (j : ℕ) → latest x ks ≡ Some j → j < length ks
latest_below x [] j e = cc
latest_below x (k ∷ ks) j e = go (is_name x k) (latest_below x ks j) e
  where
    go : (b : Bool) → (latest x ks ≡ Some j → j < length ks) → (if b then Some (length ks) else latest x ks) ≡ Some j → j < suc (length ks)
    go true h e = let f : length ks ≡ j = cc in omega (arith, f)
    go false h e = let f : j < length ks = h e in omega (arith, f)

-- the struct in a struct stands before it
pub inner_below : (xs : List Item) (x : Item) (j : ℕ) → inner_place xs x ≡ Some j → j < length xs
inner_below xs x j e = go (only_struct x) e
  where
    go : (o : Option Name) → place_if (λ n. last_place n (map tag_of xs)) o ≡ Some j → j < length xs
    go None e = cc
    go (Some tag) e =
        let f : j < length (reverse (map tag_of xs)) = latest_below tag.0 (reverse (map tag_of xs)) j e in
        let g : length (reverse (map tag_of xs)) ≡ length xs = length-reverse (map tag_of xs) ∙ length-map xs tag_of in
        omega (arith, f, g)

pub place_same : (p q : ℕ → Option ℕ) → ((x : ℕ) → p x ≡ q x) → (o : Option Name) → place_if p o ≡ place_if q o
place_same p q same None = refl
place_same p q same (Some tag) = same tag.0

-- the last struct of a tag, one place nearer to the front
pub scan_next : (xs : List Item) (x n : ℕ) (y : Item) → 0 < n → n ≤ length xs → y ≡ get_or xs (n - 1) y → last_below n (map tag_of xs) x ≡ (if is_name x (tag_of y) then Some (n - 1) else last_below (n - 1) (map tag_of xs) x)
scan_next xs x n y low le is =
    let at : slice_get xs (n - 1) ≡ Some y = slice_get-get_or xs (n - 1) y (omega arith) ∙ ap Some (sym is) in
    let e : n ≡ n - 1 + 1 = omega arith in
    ap (λ m. last_below m (map tag_of xs) x) e ∙ below_next (map tag_of xs) (n - 1) x (tag_of y) (slice_get-map tag_of xs (n - 1) ∙ ap (option_map tag_of) at)

module _ (ks : List (Option Name)) (x : ℕ) where
  last_next : (m : ℕ) (k : Option Name) → slice_get ks m ≡ Some k → last_below (suc m) ks x ≡ (if is_name x k then Some m else last_below m ks x)
  last_next m k e = ap (λ n. last_below n ks x) (sym (add-one m)) ∙ below_next ks m x k e

  -- the last of all is the last of fewer, where it is among them
  pub last_kept : (m n k : ℕ) → m ≤ length ks → last_below m ks x ≡ Some k → k < n → n ≤ m → last_below n ks x ≡ Some k
  last_kept zero n k within e lt le = absurd (omega (arith, lt, le))
  last_kept (suc m) n k within e lt le =
      let r = found_within ks m (omega arith) in
      go (is_name x r.0) (last_kept m n k (omega arith)) (sym (last_next m r.0 r.1) ∙ e)
    where
      go : (b : Bool) → (last_below m ks x ≡ Some k → k < n → n ≤ m → last_below n ks x ≡ Some k) → (if b then Some m else last_below m ks x) ≡ Some k → last_below n ks x ≡ Some k
      go true ih f =
          let h : m ≡ k = cc in
          let g : n ≡ suc m = omega (arith, h, lt, le) in
          ap (λ i. last_below i ks x) g ∙ e
      go false ih f =
          elim (cases_lt m n) [
            | inl h ↦ let g : n ≡ suc m = omega (arith, h, le) in ap (λ i. last_below i ks x) g ∙ e
            | inr h ↦ ih f lt h
          ]

  pub none_kept : (m n : ℕ) → m ≤ length ks → last_below m ks x ≡ None → n ≤ m → last_below n ks x ≡ None
  none_kept zero n within e le = let g : n ≡ 0 = omega (arith, le) in ap (λ i. last_below i ks x) g ∙ e
  none_kept (suc m) n within e le =
      let r = found_within ks m (omega arith) in
      go (is_name x r.0) (none_kept m n (omega arith)) (sym (last_next m r.0 r.1) ∙ e)
    where
      go : (b : Bool) → (last_below m ks x ≡ None → n ≤ m → last_below n ks x ≡ None) → (if b then Some m else last_below m ks x) ≡ None → last_below n ks x ≡ None
      go true ih f = cc
      go false ih f =
          elim (cases_lt m n) [
            | inl h ↦ let g : n ≡ suc m = omega (arith, h, le) in ap (λ i. last_below i ks x) g ∙ e
            | inr h ↦ ih f h
          ]

-- the last of the first items, by these alone
pub last_before : (xs : List Item) (k x : ℕ) → last_place x (map tag_of (take k xs)) ≡ last_below k (map tag_of xs) x
last_before xs k x = ap (λ ks. latest x (reverse ks)) (sym (take-map tag_of k xs))

-- where all items are in scope, the place of a tag is the last of all
pub place_all : (xs : List Item) (s : Structs) (tag : Name) → AreAllStructs xs s → tag_place s tag ≡ last_below (length xs) (map tag_of xs) tag.0
place_all xs s tag d = ap (λ n. last_below n s.tags.names.items tag.0) d.all ∙ ap (λ ks. last_below (length xs) ks tag.0) d.structs.tags

-- ---- cells

once : (o : T.Cells) → (o >>= (λ xs. Some (T.times 1 xs))) ≡ o
once None = refl
once (Some xs) = ap Some (append-nil xs)

alone : (o : T.Cells) → T.both o (Some []) ≡ o
alone None = refl
alone (Some xs) = ap Some (append-nil xs)

module _ (names : Names) where
  same_cells : (items : List S.Item) (of : CType) (tag : Name) → same_struct of ≡ Some tag → T.cells_in (T.struct_cells items) (type_of names of) ≡ T.struct_cells items (names tag)
  same_cells items (C.Struct t) tag e = let f : t ≡ tag = cc in ap (λ x. T.struct_cells items (names x)) f
  same_cells items (C.Array' p t n) tag e = go (n == 1) refl (same_cells items t tag) e
    where
      go : (b : Bool) → (n == 1) ≡ b → (same_struct t ≡ Some tag → T.cells_in (T.struct_cells items) (type_of names t) ≡ T.struct_cells items (names tag)) → (if b then same_struct t else None) ≡ Some tag
          → T.cells_in (T.struct_cells items) (S.TyArray (type_of names t) n) ≡ T.struct_cells items (names tag)
      go true is h e = ap (λ m. T.cells_in (T.struct_cells items) (S.TyArray (type_of names t) m)) (eq_means n 1 is) ∙ once (T.cells_in (T.struct_cells items) (type_of names t)) ∙ h e
      go false is h e = cc
  same_cells items _ tag e = cc

  field_cells : (items : List S.Item) (fs : List Field) (tag : Name) → only_field fs ≡ Some tag → T.fields_cells (T.struct_cells items) (map (field_of names) fs) ≡ T.struct_cells items (names tag)
  field_cells items [] tag e = cc
  field_cells items (f ∷ []) tag e = alone (T.cells_in (T.struct_cells items) (type_of names f.of)) ∙ same_cells items f.of tag e
  field_cells items (f ∷ g ∷ fs) tag e = cc

  only_cells : (items : List S.Item) (x : Item) (tag : Name) → only_struct x ≡ Some tag → declared_cells names items (Some x) ≡ T.struct_cells items (names tag)
  only_cells items (I.Struct t fs) tag e = field_cells items fs.items tag e
  only_cells items _ tag e = cc

-- the cells that a tag means, behind these items
unfoldable pub cells_in : Names → Name → List Item → T.Cells
cells_in names tag rs = T.struct_cells (map (item_of names) rs) (names tag)

module _ (names : Names) (apart : AreApart names) where
  -- an item that is no struct of the tag says nothing of it
  pub cells_skip : (tag : Name) (y : Item) (ys : List Item) → is_name tag.0 (tag_of y) ≡ false → cells_in names tag (y ∷ ys) ≡ cells_in names tag ys
  unfolding cells_in
  cells_skip tag (I.Struct t fs) ys e = rw (apart.told t.name tag ∙ e) refl
  cells_skip tag _ ys e = refl

  cells_here : (tag : Name) (y : Item) (rs : List Item) → is_name tag.0 (tag_of y) ≡ true → cells_in names tag (y ∷ rs) ≡ declared_cells names (map (item_of names) rs) (Some y)
  unfolding cells_in
  cells_here tag (I.Struct t fs) rs is = rw (apart.told t.name tag ∙ is) refl
  cells_here tag _ rs is = cc

  tag_at : (xs : List Item) (tag : Name) (n : ℕ) (o : Option ℕ) → n ≤ length xs → last_below n (map tag_of xs) tag.0 ≡ o → cells_at names xs o ≡ cells_in names tag (reverse (take n xs))
  unfolding cells_in
  tag_at xs tag n None le e = sym (absent Item T.Cells tag_of (cells_in names tag) tag.0 (cells_skip tag) xs n e)
  tag_at xs tag n (Some k) le e =
      let f = found Item T.Cells tag_of (cells_in names tag) tag.0 (cells_skip tag) xs n k le e in
      ap (declared_cells names (items_before names xs k)) f.at
      ∙ ap (λ items. declared_cells names items (Some f.item)) (sym (map_reverse (item_of names) (take k xs)))
      ∙ sym (cells_here tag f.item (reverse (take k xs)) f.is)
      ∙ sym f.same

  -- the struct that is found has the cells that its tag means
  pub tag_cells : (xs : List Item) (tag : Name) (n : ℕ) → n ≤ length xs → cells_at names xs (last_below n (map tag_of xs) tag.0) ≡ T.struct_cells (items_before names xs n) (names tag)
  unfolding cells_in
  tag_cells xs tag n le = tag_at xs tag n (last_below n (map tag_of xs) tag.0) le refl ∙ ap (λ items. T.struct_cells items (names tag)) (map_reverse (item_of names) (take n xs))

  -- the struct in a struct has its cells
  pub inner_cells : (xs : List Item) (k j : ℕ) (x : Item) → slice_get xs k ≡ Some x → inner_place (take k xs) x ≡ Some j → cells_at names xs (Some j) ≡ cells_at names xs (Some k)
  inner_cells xs k j x at e = go (only_struct x) refl e
    where
      go : (o : Option Name) → only_struct x ≡ o → place_if (λ n. last_place n (map tag_of (take k xs))) o ≡ Some j → cells_at names xs (Some j) ≡ cells_at names xs (Some k)
      go None is e = cc
      go (Some tag) is e =
          let lt : k < length xs = slice_get_within xs k x at in
          ap (cells_at names xs) (sym e ∙ last_before xs k tag.0)
          ∙ tag_cells xs tag k (omega (arith, lt))
          ∙ sym (only_cells names (items_before names xs k) x tag is)
          ∙ ap (declared_cells names (items_before names xs k)) (sym at)
