-- The rows of the offsets of fields, and what is found by them.
use Rattle.std.proofs.Common.{◌≡◌, ℕ, zero, suc, ◌+◌, ◌-◌, ◌^◌, ◌<◌, ◌≤◌, min, Bool, true, false, if◌then◌else◌, List, [], ◌∷◌, ◌++◌, length, get_or, drop, map, Option, Some, None, option_map, bytes_eq, refl, ap, sym, ◌∙◌, arith, add-one, eq-eqb, ne_eqb}
use Rattle.std.specs.Prelude.{slice_get}
use Rattle.std.proofs.lemmas.List.{append_assoc, drop_all, map-append}
use Rattle.std.proofs.lemmas.Option.{slice_get-map}
use Rattle.cpc_base.specs.Bytes.{Text}
use Rattle.cpc_base.proofs.Lists.{drop_to_item}
use Rattle.cpc_base.specs.declared.names.Name.{Name}
use Rattle.cpc_tree.specs.Erase.{Names, type_of, field_of, item_of}
use Rattle.cpc_tree.specs.Syntax.{Ty, Variable, Program}
use Rattle.cpc_tree.specs.Typing as T
use Rattle.cpc_tree.specs.Typing.{◌>>=◌}
use Rattle.cpc_tree.specs.declared.program.Field.{Field}
use Rattle.cpc_tree.specs.declared.program.Item.{Item}
use Rattle.cpc_tree.specs.declared.program.Item.TheVariants as I
use Rattle.cpc_check_rules.specs.Apart.{AreApart}
use Rattle.cpc_shapes.specs.Declaring.{fields_of}
use Rattle.cpc_types_structs.specs.Sized.{capped, capped_size}
use Rattle.cpc_types_structs.proofs.Cells.{capped_low}
use Rattle.cpc_eval_index.specs.Offsets.{offsets_behind, offsets_from, item_offsets, offset_rows, AreOffsets}
use Rattle.cpc_eval_index.specs.Sized.{capped_field}
use Rattle.cpc_eval_index.specs.declared.offsets.Offsets.{Offsets}

-- ---- the row of a struct

same_step : (o : Option ℕ) (m n : ℕ) (rest : ℕ → List ℕ) → capped m ≡ capped n → ((k : ℕ) → rest (m + k) ≡ rest (n + k))
    → capped m ∷ offsets_behind o (λ k. rest (m + k)) ≡ capped n ∷ offsets_behind o (λ k. rest (n + k))
same_step None m n rest e same = ap (λ c. c ∷ []) e
same_step (Some k) m n rest e same = ap (λ c. c ∷ rest (m + k)) e ∙ ap (λ ys. capped n ∷ ys) (same k)

-- numbers that are the same, capped, begin the same row
offsets_same : (p : Program) (fs : List Variable) (m n : ℕ) → capped m ≡ capped n → offsets_from p m fs ≡ offsets_from p n fs
offsets_same p [] m n e = refl
offsets_same p (f ∷ fs) m n e = same_step (T.size p f.type) m n (λ j. offsets_from p j fs) e (λ k. offsets_same p fs (m + k) (n + k) (omega (arith, e)))

behind_known : (p : Program) (fs : List Variable) (offset c : ℕ) (o : Option ℕ) → Some c ≡ option_map capped o → offsets_behind o (λ k. offsets_from p (offset + k) fs) ≡ offsets_from p (min (offset + c) (2 ^ 64 - 1)) fs
behind_known p fs offset c None e = cc
behind_known p fs offset c (Some k) e =
    let f : c ≡ capped k = cc in
    offsets_same p fs (offset + k) (min (offset + c) (2 ^ 64 - 1)) (omega (arith, f))

-- a row with the offset of one more field
pub row_more : (names : Names) (p : Program) (fs : List Field) (i : ℕ) (x : Field) (offset c : ℕ) (row : List ℕ) → i < length fs → x ≡ get_or fs i x → offset < 2 ^ 64 → Some c ≡ capped_size p (type_of names x.of)
    → row ++ offsets_from p offset (map (field_of names) (drop i fs)) ≡ (row ++ offset ∷ []) ++ offsets_from p (min (offset + c) (2 ^ 64 - 1)) (map (field_of names) (drop (i + 1) fs))
row_more names p fs i x offset c row within is low e =
    let rest = map (field_of names) (drop (i + 1) fs) in
    ap (λ gs. row ++ offsets_from p offset (map (field_of names) gs)) (drop_to_item fs i x within is)
    ∙ ap (λ n. row ++ n ∷ offsets_behind (T.size p (type_of names x.of)) (λ k. offsets_from p (offset + k) rest)) (capped_low offset low)
    ∙ ap (λ ys. row ++ offset ∷ ys) (behind_known p rest offset c (T.size p (type_of names x.of)) e)
    ∙ sym (append_assoc row (offset ∷ []) (offsets_from p (min (offset + c) (2 ^ 64 - 1)) rest))

-- ---- a field by a row

-- the offset, by a row, and the type of the first of these fields that has a name
abbrev pub looked : List ℕ → List Variable → Text → Option (ℕ × Ty)
looked [] fs x = None
looked (n ∷ ns) [] x = None
looked (n ∷ ns) (f ∷ fs) x = if bytes_eq f.called x then Some (n, f.type) else looked ns fs x

looked_step : (b : Bool) (o : Option ℕ) (n : ℕ) (t : Ty) (p : Program) (fs : List Variable) (x : Text) → ((k : ℕ) → looked (offsets_from p (n + k) fs) fs x ≡ capped_field (T.field_from p (n + k) fs x))
    → (if b then Some (capped n, t) else looked (offsets_behind o (λ k. offsets_from p (n + k) fs)) fs x) ≡ capped_field (if b then Some (n, t) else (o >>= (λ k. T.field_from p (n + k) fs x)))
looked_step true o n t p fs x h = refl
looked_step false None n t p fs x h = refl
looked_step false (Some k) n t p fs x h = h k

-- it is what the definition finds
looked_known : (p : Program) (fs : List Variable) (x : Text) (n : ℕ) → looked (offsets_from p n fs) fs x ≡ capped_field (T.field_from p n fs x)
looked_known p [] x n = refl
looked_known p (f ∷ fs) x n = looked_step (bytes_eq f.called x) (T.size p f.type) n f.type p fs x (λ k. looked_known p fs x (n + k))

-- the same of fields of the tree, by the row that they have
pub found_by : (names : Names) (p : Program) (ns : List ℕ) (fs : List Field) (name : Name) → ns ≡ offsets_from p 0 (map (field_of names) fs)
    → capped_field (T.field_from p 0 (map (field_of names) fs) (names name)) ≡ looked ns (map (field_of names) fs) (names name)
found_by names p ns fs name e = sym (ap (λ row. looked row (map (field_of names) fs) (names name)) e ∙ looked_known p (map (field_of names) fs) (names name) 0)

looked_here : (ns : List ℕ) (i : ℕ) (f : Variable) (fs : List Variable) (x : Text) → bytes_eq f.called x ≡ true → looked (drop i ns) (f ∷ fs) x ≡ option_map (λ n. (n, f.type)) (slice_get ns i)
looked_here [] zero f fs x e = refl
looked_here [] (suc i) f fs x e = refl
looked_here (n ∷ ns) zero f fs x e = rw e refl
looked_here (n ∷ ns) (suc i) f fs x e = looked_here ns i f fs x e

looked_past : (ns : List ℕ) (i : ℕ) (f : Variable) (fs : List Variable) (x : Text) → bytes_eq f.called x ≡ false → looked (drop i ns) (f ∷ fs) x ≡ looked (drop (suc i) ns) fs x
looked_past [] zero f fs x e = refl
looked_past [] (suc i) f fs x e = refl
looked_past (n ∷ ns) zero f fs x e = rw e refl
looked_past (n ∷ ns) (suc i) f fs x e = looked_past ns i f fs x e

looked_over : (ns : List ℕ) (x : Text) → looked ns [] x ≡ None
looked_over [] x = refl
looked_over (n ∷ ns) x = refl

-- what is found among the fields from a place on
abbrev pub looked_from : Names → List ℕ → List Field → ℕ → Name → Option (ℕ × Ty)
looked_from names ns fs i name = looked (drop i ns) (map (field_of names) (drop i fs)) (names name)

-- where none is left
pub field_over : (names : Names) (ns : List ℕ) (fs : List Field) (i : ℕ) (name : Name) → length fs ≤ i → looked_from names ns fs i name ≡ None
field_over names ns fs i name h = ap (λ gs. looked (drop i ns) (map (field_of names) gs) (names name)) (drop_all i fs h) ∙ looked_over (drop i ns) (names name)

module _ (names : Names) (apart : AreApart names) (ns : List ℕ) (fs : List Field) (i : ℕ) (name : Name) (x : Field) (within : i < length fs) (is : x ≡ get_or fs i x) where
  first_is : looked_from names ns fs i name ≡ looked (drop i ns) (field_of names x ∷ map (field_of names) (drop (i + 1) fs)) (names name)
  first_is = ap (λ gs. looked (drop i ns) (map (field_of names) gs) (names name)) (drop_to_item fs i x within is)

  -- a field that has the name
  pub field_here : x.word.name.0 ≡ name.0 → looked_from names ns fs i name ≡ option_map (λ n. (n, type_of names x.of)) (slice_get ns i)
  field_here e =
      let h : bytes_eq (names x.word.name) (names name) ≡ true = apart.told x.word.name name ∙ eq-eqb x.word.name.0 name.0 e in
      first_is ∙ looked_here ns i (field_of names x) (map (field_of names) (drop (i + 1) fs)) (names name) h

  -- one that has another is passed
  pub field_passed : (x.word.name.0 ≡ name.0 → ⊥) → looked_from names ns fs i name ≡ looked_from names ns fs (i + 1) name
  field_passed ne =
      let h : bytes_eq (names x.word.name) (names name) ≡ false = apart.told x.word.name name ∙ ne_eqb x.word.name.0 name.0 ne in
      first_is
      ∙ looked_past ns i (field_of names x) (map (field_of names) (drop (i + 1) fs)) (names name) h
      ∙ ap (λ j. looked (drop j ns) (map (field_of names) (drop (i + 1) fs)) (names name)) (sym (add-one i))

-- ---- the rows of a table

-- rows with one more
pub rows_more : {A R X : Type 0} (f : R → X) (g : A → X) (rows more : List R) (row : R) (xs : List A) (i : ℕ) (x : A) → i < length xs → x ≡ get_or xs i x → more ≡ rows ++ row ∷ [] → f row ≡ g x
    → map f more ++ map g (drop (i + 1) xs) ≡ map f rows ++ map g (drop i xs)
rows_more f g rows more row xs i x within is push same =
    let rest = map g (drop (i + 1) xs) in
    ap (λ l. map f l ++ rest) push
    ∙ ap (λ l. l ++ rest) (map-append f rows (row ∷ []))
    ∙ append_assoc (map f rows) (f row ∷ []) rest
    ∙ ap (λ y. map f rows ++ y ∷ rest) same
    ∙ sym (ap (λ l. map f rows ++ map g l) (drop_to_item xs i x within is))

module _ (names : Names) (apart : AreApart names) (xs : List Item) (o : Offsets) (d : AreOffsets xs o) (k : ℕ) where
  row_at : slice_get (offset_rows o) k ≡ option_map (item_offsets names (map (item_of names) xs)) (slice_get xs k)
  row_at = ap (λ rows. slice_get rows k) (d.rows names apart) ∙ slice_get-map (item_offsets names (map (item_of names) xs)) xs k

  -- where there is no row, no struct is declared
  pub row_missing : None ≡ slice_get (offset_rows o) k → None ≡ fields_of names (slice_get xs k)
  row_missing e = go (slice_get xs k) (e ∙ row_at)
    where
      go : (y : Option Item) → None ≡ option_map (item_offsets names (map (item_of names) xs)) y → None ≡ fields_of names y
      go None e = refl
      go (Some x) e = cc

  -- a row has the offsets of the fields
  pub row_found : (row : List ℕ) (fs : List Variable) → Some row ≡ slice_get (offset_rows o) k → Some fs ≡ fields_of names (slice_get xs k) → row ≡ offsets_from (map (item_of names) xs) 0 fs
  row_found row fs e f = go (slice_get xs k) (e ∙ row_at) f
    where
      go : (y : Option Item) → Some row ≡ option_map (item_offsets names (map (item_of names) xs)) y → Some fs ≡ fields_of names y → row ≡ offsets_from (map (item_of names) xs) 0 fs
      go None e f = cc
      go (Some (I.Struct tag fields)) e f =
          let g : row ≡ offsets_from (map (item_of names) xs) 0 (map (field_of names) fields.items) = cc in
          let h : map (field_of names) fields.items ≡ fs = cc in
          g ∙ ap (offsets_from (map (item_of names) xs) 0) h
      go (Some _) e f = cc
