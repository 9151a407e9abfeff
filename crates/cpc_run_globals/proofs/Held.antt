-- What the cells of types hold, part by part.
use Rattle.std.proofs.Common.{◌≡◌, ℕ, zero, suc, ◌+◌, ◌-◌, ◌*◌, ◌<◌, ◌≤◌, Bool, true, false, cond, List, [], ◌∷◌, ◌++◌, length, take, drop, get_or, map, reverse, Option, Some, None, option_map, refl, sym, ap, ◌∙◌, add-one, append_assoc, arith}
use Rattle.std.specs.Prelude.{bytes_eq}
use Rattle.std.proofs.lemmas.List.{append-nil, length-append}
use Rattle.std.proofs.Math.Seq.{take-length}
use Rattle.cpc_base.specs.Bytes.{Text}
use Rattle.cpc_base.proofs.Lists.{drop_to_item}
use Rattle.cpc_store.specs.declared.values.Scalar.{Scalar}
use Rattle.cpc_store.specs.declared.values.Scalar.TheVariants as S
use Rattle.cpc_tree.specs.Erase.{Names, type_of, field_of, item_of}
use Rattle.cpc_tree.specs.declared.program.Field.{Field}
use Rattle.cpc_tree.specs.declared.program.Item as G
use Rattle.cpc_tree.specs.Syntax.{Ty, TyVoid, TyInt, TyCondvar, TyPointer, TyCode, TyStruct, TyArray, Variable, Item, StructItem, GlobalItem, PrototypeItem, FunctionItem}
use Rattle.cpc_tree.specs.Typing.{Cells, both, times, cells_in, fields_cells, struct_cells, ◌>>=◌}
use Rattle.cpc_meaning.specs.Layout.{scalar_of, scalars}
use Rattle.cpc_eval_index.specs.Ends.{items_before}
use Rattle.cpc_run_globals.specs.Rows.{held, type_layout, fields_layout, repeated, joined}

-- ---- rows

scalars_both : (xs ys : List Ty) → scalars (xs ++ ys) ≡ joined (scalars xs) (scalars ys)
scalars_both [] ys = go (scalars ys)
  where
    go : (o : Option (List Scalar)) → o ≡ (o >>= (λ zs. Some zs))
    go None = refl
    go (Some zs) = refl
scalars_both (t ∷ ts) ys = ap (λ p. scalar_of t >>= (λ x. p >>= (λ xs. Some (x ∷ xs)))) (scalars_both ts ys) ∙ go (scalar_of t) (scalars ts) (scalars ys)
  where
    go : (o : Option Scalar) (p q : Option (List Scalar)) → (o >>= (λ x. joined p q >>= (λ xs. Some (x ∷ xs)))) ≡ joined (o >>= (λ x. p >>= (λ xs. Some (x ∷ xs)))) q
    go None p q = refl
    go (Some x) None q = refl
    go (Some x) (Some xs) None = refl
    go (Some x) (Some xs) (Some zs) = refl

scalars_times : (n : ℕ) (ts : List Ty) (xs : List Scalar) → scalars ts ≡ Some xs → scalars (times n ts) ≡ Some (repeated n xs)
scalars_times zero ts xs e = refl
scalars_times (suc n) ts xs e = scalars_both ts (times n ts) ∙ ap (λ o. joined o (scalars (times n ts))) e ∙ ap (λ o. joined (Some xs) o) (scalars_times n ts xs e)

-- an empty row
pub repeated_nothing : (n : ℕ) → repeated n [] ≡ []
repeated_nothing zero = refl
repeated_nothing (suc n) = repeated_nothing n

-- and once more
pub repeated_next : (n : ℕ) (row : List Scalar) → repeated n row ++ row ≡ repeated (suc n) row
repeated_next zero row = sym (append-nil row)
repeated_next (suc n) row = append_assoc row (repeated n row) row ∙ ap (λ xs. row ++ xs) (repeated_next n row)

drop_front : (xs ys : List Scalar) → drop (length xs) (xs ++ ys) ≡ ys
drop_front [] ys = refl
drop_front (x ∷ xs) ys = drop_front xs ys

take_front : (xs ys : List Scalar) → take (length xs) (xs ++ ys) ≡ xs
take_front [] ys = refl
take_front (x ∷ xs) ys = ap (λ zs. x ∷ zs) (take_front xs ys)

module _ (row front cells : List Scalar) (start end : ℕ) (is : row ≡ front ++ cells) (at : length front ≡ start) (to : end ≡ length row) where
  wide : end ≡ start + length cells
  wide = to ∙ ap length is ∙ length-append front cells ∙ ap (λ k. k + length cells) at

  -- no cell is to be repeated
  pub nothing_more : (n : ℕ) → end ≤ start → row ≡ front ++ repeated n cells
  nothing_more n e = go cells (omega (arith, wide, e)) is
    where
      go : (cs : List Scalar) → length cs ≡ 0 → row ≡ front ++ cs → row ≡ front ++ repeated n cs
      go [] z f = f ∙ ap (λ xs. front ++ xs) (sym (repeated_nothing n))
      go (c ∷ cs) z f = absurd (omega (arith, z))

  -- none is to be left
  pub nothing_left : take start row ≡ front ++ []
  nothing_left = ap (λ k. take k row) (sym at) ∙ ap (take (length front)) is ∙ take_front front cells ∙ sym (append-nil front)

  -- once more
  pub once_more : (k : ℕ) (rows : List Scalar) → 0 < k → rows ≡ front ++ repeated k cells → rows ++ take (end - start) (drop start rows) ≡ front ++ repeated (k + 1) cells
  once_more zero rows lt e = absurd (omega (arith, lt))
  once_more (suc k) rows lt e =
      let w : end - start ≡ length cells = omega (arith, wide) in
      let piece : take (end - start) (drop start rows) ≡ cells = ap (λ m. take m (drop start rows)) w ∙ ap (λ m. take (length cells) (drop m rows)) (sym at) ∙ ap (λ xs. take (length cells) (drop (length front) xs)) e
      ∙ ap (take (length cells)) (drop_front front (cells ++ repeated k cells)) ∙ take_front cells (repeated k cells) in
      ap (λ xs. rows ++ xs) piece ∙ ap (λ xs. xs ++ cells) e ∙ append_assoc front (repeated (suc k) cells) cells ∙ ap (λ xs. front ++ xs) (repeated_next (suc k) cells) ∙ ap (λ m. front ++ repeated m cells) (sym (add-one (suc k)))

-- ---- cells are scalars

-- each of these cells holds something
abbrev pub Whole : Cells → Type 0
Whole None = Unit {0}
Whole (Some ts) = (xs : List Scalar) × (scalars ts ≡ Some xs)

whole_both : (a b : Cells) → Whole a → Whole b → Whole (both a b)
whole_both None b h k = tt
whole_both (Some ts) None h k = tt
whole_both (Some ts) (Some us) h k = (h.0 ++ k.0, scalars_both ts us ∙ ap (λ o. joined o (scalars us)) h.1 ∙ ap (λ o. joined (Some h.0) o) k.1)

whole_times : (a : Cells) (n : ℕ) → Whole a → Whole (a >>= (λ xs. Some (times n xs)))
whole_times None n h = tt
whole_times (Some ts) n h = (repeated n h.0, scalars_times n ts h.0 h.1)

cells_whole : (tags : Text → Cells) → ((x : Text) → Whole (tags x)) → (t : Ty) → Whole (cells_in tags t)
cells_whole tags h TyVoid = tt
cells_whole tags h (TyInt kind) = (S.Int kind ∷ [], refl)
cells_whole tags h TyCondvar = (S.Cond ∷ [], refl)
cells_whole tags h (TyPointer t) = (S.Pointer ∷ [], refl)
cells_whole tags h (TyCode r ps) = (S.Code ∷ [], refl)
cells_whole tags h (TyStruct tag) = h tag
cells_whole tags h (TyArray t n) = whole_times (cells_in tags t) n (cells_whole tags h t)

fields_whole : (tags : Text → Cells) → ((x : Text) → Whole (tags x)) → (fs : List Variable) → Whole (fields_cells tags fs)
fields_whole tags h [] = ([], refl)
fields_whole tags h (f ∷ fs) = whole_both (cells_in tags f.type) (fields_cells tags fs) (cells_whole tags h f.type) (fields_whole tags h fs)

struct_whole : (items : List Item) (x : Text) → Whole (struct_cells items x)
struct_whole [] x = tt
struct_whole (StructItem t fs ∷ items) x = go (bytes_eq t x) (fields_whole (struct_cells items) (λ y. struct_whole items y) fs) (struct_whole items x)
  where
    go : (b : Bool) → Whole (fields_cells (struct_cells items) fs) → Whole (struct_cells items x) → Whole (cond b (fields_cells (struct_cells items) fs) (struct_cells items x))
    go true h k = h
    go false h k = k
struct_whole (GlobalItem y t start ∷ items) x = struct_whole items x
struct_whole (PrototypeItem mode f r ps ∷ items) x = struct_whole items x
struct_whole (FunctionItem f ∷ items) x = struct_whole items x

pub type_whole : (items : List Item) (t : Ty) → Whole (cells_in (struct_cells items) t)
type_whole items t = cells_whole (struct_cells items) (λ x. struct_whole items x) t

-- ---- arrays

array_layout : (items : List Item) (t : Ty) (n : ℕ) → type_layout items (TyArray t n) ≡ option_map (repeated n) (type_layout items t)
array_layout items t n = go (cells_in (struct_cells items) t) (type_whole items t)
  where
    go : (o : Cells) → Whole o → held (o >>= (λ xs. Some (times n xs))) ≡ option_map (repeated n) (held o)
    go None h = refl
    go (Some ts) h = scalars_times n ts h.0 h.1 ∙ ap (option_map (repeated n)) (sym h.1)

repeated_sum : (n m : ℕ) (row : List Scalar) → repeated n row ++ repeated m row ≡ repeated (n + m) row
repeated_sum zero m row = let e : m ≡ 0 + m = omega arith in ap (λ k. repeated k row) e
repeated_sum (suc n) m row = let e : suc (n + m) ≡ suc n + m = omega arith in append_assoc row (repeated n row) (repeated m row) ∙ ap (λ xs. row ++ xs) (repeated_sum n m row) ∙ ap (λ k. repeated k row) e

repeated_product : (n m : ℕ) (row : List Scalar) → repeated n (repeated m row) ≡ repeated (n * m) row
repeated_product zero m row = let e : 0 ≡ 0 * m = omega arith in ap (λ k. repeated k row) e
repeated_product (suc n) m row = let e : m + n * m ≡ suc n * m = omega arith in ap (λ xs. repeated m row ++ xs) (repeated_product n m row) ∙ repeated_sum m (n * m) row ∙ ap (λ k. repeated k row) e

-- an array of what is an array of this
pub peeled_array : (items : List Item) (t : Ty) (n m : ℕ) (o : Option (List Scalar)) → type_layout items t ≡ option_map (repeated m) o → type_layout items (TyArray t n) ≡ option_map (repeated (n * m)) o
peeled_array items t n m o e = array_layout items t n ∙ ap (option_map (repeated n)) e ∙ twice o
  where
    twice : (o : Option (List Scalar)) → option_map (repeated n) (option_map (repeated m) o) ≡ option_map (repeated (n * m)) o
    twice None = refl
    twice (Some row) = ap Some (repeated_product n m row)

module _ (old : List Scalar) (n : ℕ) (o q : Option (List Scalar)) (is : q ≡ option_map (repeated n) o) where
  -- what is put behind a row is repeated there
  pub times_put : (mid new : List Scalar) (start : ℕ) → joined (Some old) o ≡ Some mid → length old ≡ start → ((front cells : List Scalar) → mid ≡ front ++ cells → length front ≡ start → new ≡ front ++ repeated n cells) → joined (Some old) q ≡ Some new
  times_put mid new start e at told = ap (joined (Some old)) is ∙ go o e
    where
      go : (o : Option (List Scalar)) → joined (Some old) o ≡ Some mid → joined (Some old) (option_map (repeated n) o) ≡ Some new
      go None f = absurd cc
      go (Some row) f = ap Some (sym (told old row (sym (ap (elim [ Some xs ↦ xs | None ↦ mid ]) f)) at))

  pub times_absent : joined (Some old) o ≡ None → joined (Some old) q ≡ None
  times_absent e = ap (joined (Some old)) is ∙ go o e
    where
      go : (o : Option (List Scalar)) → joined (Some old) o ≡ None → joined (Some old) (option_map (repeated n) o) ≡ None
      go None f = refl
      go (Some row) f = absurd cc

-- ---- fields

held_both : (a b : Cells) → held (both a b) ≡ joined (held a) (held b)
held_both None b = refl
held_both (Some ts) None = go (scalars ts)
  where
    go : (o : Option (List Scalar)) → None ≡ joined o None
    go None = refl
    go (Some xs) = refl
held_both (Some ts) (Some us) = scalars_both ts us

fields_next : (items : List Item) (f : Variable) (fs : List Variable) → fields_layout items (f ∷ fs) ≡ joined (type_layout items f.type) (fields_layout items fs)
fields_next items f fs = held_both (cells_in (struct_cells items) f.type) (fields_cells (struct_cells items) fs)

joined_assoc : (xs : List Scalar) (o p : Option (List Scalar)) → joined (Some xs) (joined o p) ≡ joined (joined (Some xs) o) p
joined_assoc xs None p = refl
joined_assoc xs (Some ys) None = refl
joined_assoc xs (Some ys) (Some zs) = ap Some (sym (append_assoc xs ys zs))

module _ (names : Names) (items : List Item) (fs : List Field) (i : ℕ) (x : Field) (all : List Scalar) where
  abbrev rest : Option (List Scalar)
  rest = fields_layout items (map (field_of names) (drop (i + 1) fs))

  opened : i < length fs → x ≡ get_or fs i x → joined (Some all) (fields_layout items (map (field_of names) (drop i fs))) ≡ joined (Some all) (joined (type_layout items (type_of names x.of)) rest)
  opened h is = ap (λ gs. joined (Some all) (fields_layout items (map (field_of names) gs))) (drop_to_item fs i x h is) ∙ ap (joined (Some all)) (fields_next items (field_of names x) (map (field_of names) (drop (i + 1) fs)))

  -- one that is incomplete
  pub field_absent : i < length fs → x ≡ get_or fs i x → joined (Some all) (type_layout items (type_of names x.of)) ≡ None → joined (Some all) (fields_layout items (map (field_of names) (drop i fs))) ≡ None
  field_absent h is e = opened h is ∙ joined_assoc all (type_layout items (type_of names x.of)) rest ∙ ap (λ o. joined o rest) e

  -- one more field behind what is there
  pub field_held : (new : List Scalar) → i < length fs → x ≡ get_or fs i x → joined (Some all) (type_layout items (type_of names x.of)) ≡ Some new
      → joined (Some all) (fields_layout items (map (field_of names) (drop i fs))) ≡ joined (Some new) (fields_layout items (map (field_of names) (drop (i + 1) fs)))
  field_held new h is e = opened h is ∙ joined_assoc all (type_layout items (type_of names x.of)) rest ∙ ap (λ o. joined o rest) e

pub joined_end : (all : List Scalar) → joined (Some all) (Some []) ≡ Some all
joined_end all = ap Some (append-nil all)

pub joined_start : (o : Option (List Scalar)) → o ≡ joined (Some []) o
joined_start None = refl
joined_start (Some xs) = refl

-- a row of its own
pub of_row : (o r : Option (List Scalar)) (xs : List Scalar) → xs ≡ [] → joined (Some xs) o ≡ r → r ≡ o
of_row o r xs is e = sym e ∙ ap (λ ys. joined (Some ys) o) is ∙ sym (joined_start o)

-- before the end stand all items
pub all_before : (names : Names) (xs : List G.Item) (n : ℕ) → n ≡ length xs → items_before names xs n ≡ reverse (map (item_of names) xs)
all_before names xs n e = ap (λ ys. reverse (map (item_of names) ys)) (ap (λ m. take m xs) e ∙ take-length xs)
