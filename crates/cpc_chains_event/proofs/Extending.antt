-- A program and one with more structs, whose tags have marks: what is complete in the first is so in the second, with the same cells.
use Rattle.std.proofs.Common.{◌≡◌, ℕ, ◌+◌, Bool, true, false, cond, List, [], ◌∷◌, ◌++◌, reverse, bytes_eq, Option, Some, None, refl, sym, ◌∙◌, ap, subst}
use Rattle.std.proofs.lemmas.List.{reverse-append}
use Rattle.cpc_base.specs.Bytes.{Text}
use Rattle.cpc_tree.specs.Syntax.{Ty, TyVoid, TyInt, TyCondvar, TyPointer, TyCode, TyStruct, TyArray, Variable, Item, StructItem, GlobalItem, PrototypeItem, FunctionItem, Program}
use Rattle.cpc_tree.specs.Typing.{Cells, cells_in, fields_cells, struct_cells, cells, size, fields_in, field_from}
use Rattle.cpc_meaning.proofs.Functions.{same_text, texts_differ}
use Rattle.cpc_convert_common.specs.Marks.{has_marks}
use Rattle.cpc_convert_image_laws.specs.Relations.{Less, AsIs, Untold, Extends}
use Rattle.cpc_convert_image_laws.proofs.Options.{less_then}
use Rattle.cpc_chains_event.proofs.Structs.{AreStructs, NoneAre, OneIs}

-- whether an item is a struct
abbrev pub is_struct : Item → Bool
is_struct (StructItem tag fs) = true
is_struct item = false

-- the structs of the first row stand in the second, in the same order; more of them have marked tags
pub data Beyond : List Item → List Item → Type 0 where
  BothEnd : Beyond [] []
  BothHave : (tag : Text) (fs : List Variable) (xs ys : List Item) → has_marks tag ≡ false → Beyond xs ys → Beyond (StructItem tag fs ∷ xs) (StructItem tag fs ∷ ys)
  OneMore : (tag : Text) (fs : List Variable) (xs ys : List Item) → has_marks tag ≡ true → Beyond xs ys → Beyond xs (StructItem tag fs ∷ ys)
  LeftHas : (x : Item) (xs ys : List Item) → is_struct x ≡ false → Beyond xs ys → Beyond (x ∷ xs) ys
  RightHas : (x : Item) (xs ys : List Item) → is_struct x ≡ false → Beyond xs ys → Beyond xs (x ∷ ys)

pub beyond_append : (xs ys us vs : List Item) → Beyond xs ys → Beyond us vs → Beyond (xs ++ us) (ys ++ vs)
beyond_append _ _ us vs BothEnd h = h
beyond_append _ _ us vs (BothHave tag fs xs ys m g) h = BothHave tag fs _ _ m (beyond_append xs ys us vs g h)
beyond_append _ _ us vs (OneMore tag fs xs ys m g) h = OneMore tag fs _ _ m (beyond_append xs ys us vs g h)
beyond_append _ _ us vs (LeftHas x xs ys m g) h = LeftHas x _ _ m (beyond_append xs ys us vs g h)
beyond_append _ _ us vs (RightHas x xs ys m g) h = RightHas x _ _ m (beyond_append xs ys us vs g h)

-- more items behind the second row
pub beyond_more : (xs ys us : List Item) → Beyond xs ys → Beyond [] us → Beyond xs (ys ++ us)
beyond_more _ _ us BothEnd h = h
beyond_more _ _ us (BothHave tag fs xs ys m g) h = BothHave tag fs _ _ m (beyond_more xs ys us g h)
beyond_more _ _ us (OneMore tag fs xs ys m g) h = OneMore tag fs _ _ m (beyond_more xs ys us g h)
beyond_more _ _ us (LeftHas x xs ys m g) h = LeftHas x _ _ m (beyond_more xs ys us g h)
beyond_more _ _ us (RightHas x xs ys m g) h = RightHas x _ _ m (beyond_more xs ys us g h)

pub beyond_structs : (xs : List Item) → AreStructs xs → Beyond [] xs
beyond_structs _ NoneAre = BothEnd
beyond_structs _ (OneIs tag fs its m h) = OneMore tag fs [] its m (beyond_structs its h)

-- an item to the back
snoc : (x : Item) (xs : List Item) → reverse (x ∷ xs) ≡ reverse xs ++ x ∷ []
snoc x xs = reverse-append (x ∷ []) xs

beyond_reverse : (xs ys : List Item) → Beyond xs ys → Beyond (reverse xs) (reverse ys)
beyond_reverse _ _ BothEnd = BothEnd
beyond_reverse _ _ (BothHave tag fs xs ys m g) =
    subst (λ us. Beyond us (reverse (StructItem tag fs ∷ ys))) (sym (snoc (StructItem tag fs) xs))
    (subst (Beyond (reverse xs ++ StructItem tag fs ∷ [])) (sym (snoc (StructItem tag fs) ys)) (beyond_append (reverse xs) (reverse ys) _ _ (beyond_reverse xs ys g) (BothHave tag fs [] [] m BothEnd)))
beyond_reverse _ _ (OneMore tag fs xs ys m g) = subst (Beyond (reverse xs)) (sym (snoc (StructItem tag fs) ys)) (beyond_more (reverse xs) (reverse ys) _ (beyond_reverse xs ys g) (OneMore tag fs [] [] m BothEnd))
beyond_reverse _ _ (LeftHas x xs ys m g) = subst (λ us. Beyond us (reverse ys)) (sym (snoc x xs)) (left_more (reverse xs) (reverse ys) x m (beyond_reverse xs ys g))
  where
    left_more : (xs ys : List Item) (x : Item) → is_struct x ≡ false → Beyond xs ys → Beyond (xs ++ x ∷ []) ys
    left_more _ _ x e BothEnd = LeftHas x _ _ e BothEnd
    left_more _ _ x e (BothHave tag fs us vs n h) = BothHave tag fs _ _ n (left_more us vs x e h)
    left_more _ _ x e (OneMore tag fs us vs n h) = OneMore tag fs _ _ n (left_more us vs x e h)
    left_more _ _ x e (LeftHas y us vs n h) = LeftHas y _ _ n (left_more us vs x e h)
    left_more _ _ x e (RightHas y us vs n h) = RightHas y _ _ n (left_more us vs x e h)
beyond_reverse _ _ (RightHas x xs ys m g) = subst (Beyond (reverse xs)) (sym (snoc x ys)) (beyond_more (reverse xs) (reverse ys) _ (beyond_reverse xs ys g) (RightHas x [] [] m BothEnd))

-- ---- look-ups

-- what a row that gives nothing for other items gives
pass_cells : (x : Item) (xs : List Item) (tag : Text) → is_struct x ≡ false → struct_cells (x ∷ xs) tag ≡ struct_cells xs tag
pass_cells (StructItem t fs) xs tag e = absurd (cc)
pass_cells (GlobalItem y t s) xs tag e = refl
pass_cells (PrototypeItem m f r ps) xs tag e = refl
pass_cells (FunctionItem f) xs tag e = refl

pass_fields : (x : Item) (xs : List Item) (tag : Text) → is_struct x ≡ false → fields_in (x ∷ xs) tag ≡ fields_in xs tag
pass_fields (StructItem t fs) xs tag e = absurd (cc)
pass_fields (GlobalItem y t s) xs tag e = refl
pass_fields (PrototypeItem m f r ps) xs tag e = refl
pass_fields (FunctionItem f) xs tag e = refl

-- tags of which one has marks
tags_differ : (t tag : Text) → has_marks t ≡ false → has_marks tag ≡ true → bytes_eq t tag ≡ false
tags_differ t tag h g = texts_differ t tag (λ (e : t ≡ tag). let z : true ≡ false = sym g ∙ (sym (ap has_marks e) ∙ h) in absurd (cc))

-- the first row has no struct with a marked tag
no_cells : (xs ys : List Item) (tag : Text) → Beyond xs ys → has_marks tag ≡ true → struct_cells xs tag ≡ None
no_cells _ _ tag BothEnd h = refl
no_cells _ _ tag (BothHave t fs xs ys m g) h = ap (λ b. cond b (fields_cells (struct_cells xs) fs) (struct_cells xs tag)) (tags_differ t tag m h) ∙ no_cells xs ys tag g h
no_cells _ _ tag (OneMore t fs xs ys m g) h = no_cells xs ys tag g h
no_cells _ _ tag (LeftHas x xs ys m g) h = pass_cells x xs tag m ∙ no_cells xs ys tag g h
no_cells _ _ tag (RightHas x xs ys m g) h = no_cells xs ys tag g h

no_fields : (xs ys : List Item) (tag : Text) → Beyond xs ys → has_marks tag ≡ true → fields_in xs tag ≡ None
no_fields _ _ tag BothEnd h = refl
no_fields _ _ tag (BothHave t fs xs ys m g) h = ap (λ b. cond b (Some fs) (fields_in xs tag)) (tags_differ t tag m h) ∙ no_fields xs ys tag g h
no_fields _ _ tag (OneMore t fs xs ys m g) h = no_fields xs ys tag g h
no_fields _ _ tag (LeftHas x xs ys m g) h = pass_fields x xs tag m ∙ no_fields xs ys tag g h
no_fields _ _ tag (RightHas x xs ys m g) h = no_fields xs ys tag g h

-- the cells of types and of fields, where structs have these
pub types_less : (f g : Text → Cells) → ((tag : Text) → Less (f tag) (g tag)) → (t : Ty) → Less (cells_in f t) (cells_in g t)
types_less f g h TyVoid = AsIs _
types_less f g h (TyInt kind) = AsIs _
types_less f g h TyCondvar = AsIs _
types_less f g h (TyPointer t) = AsIs _
types_less f g h (TyCode r ps) = AsIs _
types_less f g h (TyStruct tag) = h tag
types_less f g h (TyArray t n) = less_then _ _ _ _ (types_less f g h t) λ xs. AsIs _

all_less : (f g : Text → Cells) → ((tag : Text) → Less (f tag) (g tag)) → (fs : List Variable) → Less (fields_cells f fs) (fields_cells g fs)
all_less f g h [] = AsIs _
all_less f g h (x ∷ fs) = less_then _ _ _ _ (types_less f g h x.type) λ xs. less_then _ _ _ _ (all_less f g h fs) λ ys. AsIs _

-- what is found here or further on
by_test : {A : Type 0} (b : Bool) (x y u v : Option A) → Less x y → Less u v → Less (cond b x u) (cond b y v)
by_test true x y u v h g = h
by_test false x y u v h g = g

-- one more is found, where there is nothing
past_test : {A : Type 0} (b : Bool) (x u v : Option A) → (b ≡ true → u ≡ None) → Less u v → Less u (cond b x v)
past_test true x u v h g = subst (λ o. Less o x) (sym (h refl)) (Untold x)
past_test false x u v h g = g

pub cells_less : (xs ys : List Item) → Beyond xs ys → (tag : Text) → Less (struct_cells xs tag) (struct_cells ys tag)
cells_less _ _ BothEnd tag = AsIs None
cells_less _ _ (BothHave t fs xs ys m g) tag = by_test (bytes_eq t tag) _ _ _ _ (all_less (struct_cells xs) (struct_cells ys) (cells_less xs ys g) fs) (cells_less xs ys g tag)
cells_less _ _ (OneMore t fs xs ys m g) tag = past_test (bytes_eq t tag) _ _ _ (λ e. no_cells xs ys tag g (ap has_marks (sym (same_text t tag e)) ∙ m)) (cells_less xs ys g tag)
cells_less _ _ (LeftHas x xs ys m g) tag = subst (λ o. Less o (struct_cells ys tag)) (sym (pass_cells x xs tag m)) (cells_less xs ys g tag)
cells_less _ _ (RightHas x xs ys m g) tag = subst (Less (struct_cells xs tag)) (sym (pass_cells x ys tag m)) (cells_less xs ys g tag)

fields_less : (xs ys : List Item) → Beyond xs ys → (tag : Text) → Less (fields_in xs tag) (fields_in ys tag)
fields_less _ _ BothEnd tag = AsIs None
fields_less _ _ (BothHave t fs xs ys m g) tag = by_test (bytes_eq t tag) _ _ _ _ (AsIs _) (fields_less xs ys g tag)
fields_less _ _ (OneMore t fs xs ys m g) tag = past_test (bytes_eq t tag) _ _ _ (λ e. no_fields xs ys tag g (ap has_marks (sym (same_text t tag e)) ∙ m)) (fields_less xs ys g tag)
fields_less _ _ (LeftHas x xs ys m g) tag = subst (λ o. Less o (fields_in ys tag)) (sym (pass_fields x xs tag m)) (fields_less xs ys g tag)
fields_less _ _ (RightHas x xs ys m g) tag = subst (Less (fields_in xs tag)) (sym (pass_fields x ys tag m)) (fields_less xs ys g tag)

-- ---- programs

module _ (p q : Program) (b : Beyond p q) where
  -- the cells of a type, where the structs of a row with those of p are known
  pub cells_there : (t : Ty) → Less (cells p t) (cells_in (struct_cells (reverse q)) t)
  cells_there t = types_less (struct_cells (reverse p)) (struct_cells (reverse q)) (cells_less (reverse p) (reverse q) (beyond_reverse p q b)) t

  size_there : (t : Ty) → Less (size p t) (size q t)
  size_there t = less_then _ _ _ _ (cells_there t) λ xs. AsIs _

  field_there : (n : ℕ) (fs : List Variable) (x : Text) → Less (field_from p n fs x) (field_from q n fs x)
  field_there n [] x = AsIs _
  field_there n (f ∷ fs) x = by_test (bytes_eq f.called x) _ _ _ _ (AsIs _) (less_then _ _ _ _ (size_there f.type) λ k. field_there (n + k) fs x)

  pub extending : Extends p q
  extending = record { cells = cells_there; fields = λ tag x. less_then _ _ _ _ (fields_less (reverse p) (reverse q) (beyond_reverse p q b) tag) λ fs. field_there 0 fs x }
