-- The fields, the cells and the size of a struct of scalar fields.
use Rattle.std.proofs.Common.{◌≡◌, ℕ, zero, suc, ◌+◌, true, false, cond, List, [], ◌∷◌, ◌++◌, map, reverse, length, slice_get, bytes_eq, Some, refl, sym, ◌∙◌, ap, subst, arith}
use Rattle.std.proofs.lemmas.List.{reverse-append}
use Rattle.cpc_base.specs.Bytes.{Text}
use Rattle.cpc_tree.specs.Syntax.{Ty, TyVoid, TyInt, TyCondvar, TyPointer, TyCode, TyStruct, TyArray, Item, StructItem, GlobalItem, PrototypeItem, FunctionItem, Variable, Program}
use Rattle.cpc_tree.specs.Typing.{Cells, cells_in, fields_cells, struct_cells, cells, size, is_scalar, fields_in, fields, field_from, field, both, ◌>>=◌}
use Rattle.cpc_meaning.proofs.Functions.{text_same, scalar_size}
use Rattle.cpc_convert_flat_laws.specs.Structs.{NoStruct, NoneHere, NotThis, NotCalled, NoneSo, NotSo, ScalarFields, NoFields, AndField, IsStruct}

-- ---- items

pub no_struct_append : (tag : Text) (xs ys : List Item) → NoStruct tag xs → NoStruct tag ys → NoStruct tag (xs ++ ys)
no_struct_append tag _ ys NoneHere h = h
no_struct_append tag _ ys (NotThis x xs e g) h = NotThis x (xs ++ ys) e (no_struct_append tag xs ys g h)

no_struct_reverse : (tag : Text) (xs : List Item) → NoStruct tag xs → NoStruct tag (reverse xs)
no_struct_reverse tag _ NoneHere = NoneHere
no_struct_reverse tag _ (NotThis x xs e g) =
    subst (NoStruct tag) (sym (reverse-append (x ∷ []) xs)) (no_struct_append tag (reverse xs) (x ∷ []) (no_struct_reverse tag xs g) (NotThis x [] e NoneHere))

fields_past : (tag : Text) (xs ys : List Item) → NoStruct tag xs → fields_in (xs ++ ys) tag ≡ fields_in ys tag
fields_past tag _ ys NoneHere = refl
fields_past tag _ ys (NotThis (StructItem t fs) xs e g) = ap (λ b. cond b (Some fs) (fields_in (xs ++ ys) tag)) e ∙ fields_past tag xs ys g
fields_past tag _ ys (NotThis (GlobalItem x t start) xs e g) = fields_past tag xs ys g
fields_past tag _ ys (NotThis (PrototypeItem mode f r ps) xs e g) = fields_past tag xs ys g
fields_past tag _ ys (NotThis (FunctionItem f) xs e g) = fields_past tag xs ys g

cells_past : (tag : Text) (xs ys : List Item) → NoStruct tag xs → struct_cells (xs ++ ys) tag ≡ struct_cells ys tag
cells_past tag _ ys NoneHere = refl
cells_past tag _ ys (NotThis (StructItem t fs) xs e g) = ap (λ b. cond b (fields_cells (struct_cells (xs ++ ys)) fs) (struct_cells (xs ++ ys) tag)) e ∙ cells_past tag xs ys g
cells_past tag _ ys (NotThis (GlobalItem x t start) xs e g) = cells_past tag xs ys g
cells_past tag _ ys (NotThis (PrototypeItem mode f r ps) xs e g) = cells_past tag xs ys g
cells_past tag _ ys (NotThis (FunctionItem f) xs e g) = cells_past tag xs ys g

reverse_at : (x : Item) (xs ys : List Item) → reverse (xs ++ x ∷ ys) ≡ reverse ys ++ x ∷ reverse xs
reverse_at x xs ys =
    reverse-append xs (x ∷ ys) ∙ ap (λ zs. zs ++ reverse xs) (reverse-append (x ∷ []) ys) ∙ joined (reverse ys) (reverse xs)
  where
    joined : (us vs : List Item) → (us ++ x ∷ []) ++ vs ≡ us ++ x ∷ vs
    joined [] vs = refl
    joined (u ∷ us) vs = ap (λ ws. u ∷ ws) (joined us vs)

-- ---- scalar fields

pub scalar_cells : (tags : Text → Cells) (t : Ty) → is_scalar t ≡ true → cells_in tags t ≡ Some (t ∷ [])
scalar_cells tags (TyInt kind) e = refl
scalar_cells tags TyCondvar e = refl
scalar_cells tags (TyPointer t) e = refl
scalar_cells tags (TyCode r ps) e = refl
scalar_cells tags TyVoid e = absurd (cc)
scalar_cells tags (TyStruct tag) e = absurd (cc)
scalar_cells tags (TyArray t n) e = absurd (cc)

abbrev pub type_of : Variable → Ty
type_of v = v.type

all_cells : (tags : Text → Cells) (fs : List Variable) → ScalarFields fs → fields_cells tags fs ≡ Some (map type_of fs)
all_cells tags _ NoFields = refl
all_cells tags _ (AndField v vs e n s) =
    ap (λ o. both o (fields_cells tags vs)) (scalar_cells tags v.type e) ∙ ap (both (Some (v.type ∷ []))) (all_cells tags vs s)

map_length : (fs : List Variable) → length (map type_of fs) ≡ length fs
map_length [] = refl
map_length (v ∷ vs) = ap suc (map_length vs)

not_at : (x : Text) (vs : List Variable) (i : ℕ) (v : Variable) → NotCalled x vs → slice_get vs i ≡ Some v → bytes_eq x v.called ≡ false
not_at x _ i v NoneSo e = absurd (cc)
not_at x _ zero v (NotSo u us d n) e = let f : u ≡ v = cc in ap (λ w. bytes_eq x w.called) (sym f) ∙ d
not_at x _ (suc i) v (NotSo u us d n) e = not_at x us i v n e

-- the i-th of such fields
pub field_at : (q : Program) (n : ℕ) (fs : List Variable) (i : ℕ) (v : Variable) → ScalarFields fs → slice_get fs i ≡ Some v → field_from q n fs v.called ≡ Some (n + i, v.type)
field_at q n _ i v NoFields e = absurd (cc)
field_at q n _ zero v (AndField u us sc d s) e =
    let f : u ≡ v = cc in
    ap (λ w. cond (bytes_eq u.called w.called) (Some (n, u.type)) (size q u.type >>= (λ k. field_from q (n + k) us w.called))) (sym f)
    ∙ ap (λ b. cond b (Some (n, u.type)) (size q u.type >>= (λ k. field_from q (n + k) us u.called))) (text_same u.called)
    ∙ ap (λ w. Some (n, w.type)) f
    ∙ ap (λ m. Some (m, v.type)) (let g : n ≡ n + 0 = omega arith in g)
field_at q n _ (suc i) v (AndField u us sc d s) e =
    ap (λ b. cond b (Some (n, u.type)) (size q u.type >>= (λ k. field_from q (n + k) us v.called))) (not_at u.called us i v d e)
    ∙ ap (λ o. o >>= (λ k. field_from q (n + k) us v.called)) (scalar_size q u.type sc)
    ∙ field_at q (n + 1) us i v s e
    ∙ ap (λ m. Some (m, v.type)) (let g : n + 1 + i ≡ n + suc i = omega arith in g)

-- ---- a struct of a program

module _ (front back : List Item) (tag : Text) (fs : List Variable) (n : NoStruct tag back) where
  -- the fields of a struct that no later one hides, and their cells by the structs before it
  pub struct_fields : fields (front ++ StructItem tag fs ∷ back) tag ≡ Some fs
  struct_fields =
      ap (λ items. fields_in items tag) (reverse_at (StructItem tag fs) front back)
      ∙ fields_past tag (reverse back) (StructItem tag fs ∷ reverse front) (no_struct_reverse tag back n)
      ∙ ap (λ b. cond b (Some fs) (fields_in (reverse front) tag)) (text_same tag)

  pub struct_is : cells (front ++ StructItem tag fs ∷ back) (TyStruct tag) ≡ fields_cells (struct_cells (reverse front)) fs
  struct_is =
      ap (λ items. struct_cells items tag) (reverse_at (StructItem tag fs) front back)
      ∙ cells_past tag (reverse back) (StructItem tag fs ∷ reverse front) (no_struct_reverse tag back n)
      ∙ ap (λ b. cond b (fields_cells (struct_cells (reverse front)) fs) (struct_cells (reverse front) tag)) (text_same tag)

-- a struct of scalar fields that no later one hides
pub is_struct : (front back : List Item) (tag : Text) (fs : List Variable) → NoStruct tag back → ScalarFields fs → IsStruct (front ++ StructItem tag fs ∷ back) tag fs
is_struct front back tag fs n s = record { fields = struct_fields front back tag fs n; size = its_size; field = its_field }
  where
    its_size : size (front ++ StructItem tag fs ∷ back) (TyStruct tag) ≡ Some (length fs)
    its_size = ap (λ o. o >>= λ xs. Some (length xs)) (struct_is front back tag fs n ∙ all_cells (struct_cells (reverse front)) fs s) ∙ ap Some (map_length fs)

    its_field : (i : ℕ) (v : Variable) → slice_get fs i ≡ Some v → field (front ++ StructItem tag fs ∷ back) tag v.called ≡ Some (i, v.type)
    its_field i v e =
        ap (λ o. o >>= λ gs. field_from (front ++ StructItem tag fs ∷ back) 0 gs v.called) (struct_fields front back tag fs n)
        ∙ field_at (front ++ StructItem tag fs ∷ back) 0 fs i v s e
        ∙ ap (λ m. Some (m, v.type)) (let g : 0 + i ≡ i = omega arith in g)
