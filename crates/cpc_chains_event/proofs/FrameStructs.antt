-- The structs of an event program are there.
use Rattle.std.proofs.Common.{◌≡◌, ◌⊎◌, inl, inr, ⊎_elim, Bool, true, false, List, [], ◌∷◌, ◌++◌, bytes_eq, refl, sym, ◌∙◌, ap, subst}
use Rattle.cpc_base.specs.Bytes.{Text}
use Rattle.cpc_tree.specs.Syntax.{Variable, Item, StructItem, GlobalItem, PrototypeItem, FunctionItem}
use Rattle.cpc_meaning.proofs.Functions.{same_text, text_same}
use Rattle.cpc_convert_common.specs.Members.{Has, OnTop, Below}
use Rattle.cpc_convert_flat_laws.specs.Structs.{NoStruct, NoneHere, NotThis, IsStruct, ScalarFields}
use Rattle.cpc_convert_flat_laws.proofs.Structs.{is_struct}

-- ---- one struct of a tag

-- the last struct of a tag among these items has these fields
pub record OneStruct (tag : Text) (fs : List Variable) (items : List Item) : Type 0 where
  pub front : List Item
  pub back : List Item
  pub is_items : items ≡ front ++ StructItem tag fs ∷ back
  pub none : NoStruct tag back

-- fields of a struct of the tag
abbrev SomeStruct : Text → List Item → Type 0
SomeStruct tag items = (fs : List Variable) × Has (StructItem tag fs) items

here_or_not : (tag : Text) (item : Item) (items : List Item) → NoStruct tag items → NoStruct tag (item ∷ items) ⊎ SomeStruct tag (item ∷ items)
here_or_not tag (StructItem t fs) items none = go (bytes_eq t tag) refl
  where
    go : (b : Bool) → bytes_eq t tag ≡ b → NoStruct tag (StructItem t fs ∷ items) ⊎ SomeStruct tag (StructItem t fs ∷ items)
    go true e = inr (fs, subst (λ x. Has (StructItem x fs) (StructItem t fs ∷ items)) (same_text t tag e) (OnTop _ _))
    go false e = inl (NotThis _ _ e none)
here_or_not tag (GlobalItem x t s) items none = inl (NotThis _ _ refl none)
here_or_not tag (PrototypeItem m f r ps) items none = inl (NotThis _ _ refl none)
here_or_not tag (FunctionItem f) items none = inl (NotThis _ _ refl none)

decide : (tag : Text) (items : List Item) → NoStruct tag items ⊎ SomeStruct tag items
decide tag [] = inl NoneHere
decide tag (item ∷ items) = ⊎_elim (λ none. here_or_not tag item items none) (λ some. inr (some.0, Below _ _ _ some.1)) (decide tag items)

none_has : (tag : Text) (fs : List Variable) (items : List Item) → NoStruct tag items → Has (StructItem tag fs) items → ⊥
none_has tag fs _ NoneHere h = elim h [ ]
none_has tag fs _ (NotThis _ items e none) (OnTop _ _) = absurd (let z : true ≡ false = sym (text_same tag) ∙ e in cc)
none_has tag fs _ (NotThis _ items e none) (Below _ _ _ h) = none_has tag fs items none h

at_top : (tag : Text) (fs : List Variable) (item : Item) (items : List Item) → Has (StructItem tag fs) (item ∷ items) → NoStruct tag items → OneStruct tag fs (item ∷ items)
at_top tag fs _ items (OnTop _ _) none = record { front = []; back = items; is_items = refl; none = none }
at_top tag fs _ items (Below _ _ _ h) none = absurd (none_has tag fs items none h)

one_later : (tag : Text) (fs : List Variable) (item : Item) (items : List Item) → OneStruct tag fs items → OneStruct tag fs (item ∷ items)
one_later tag fs item items o = record { front = item ∷ o.front; back = o.back; is_items = ap (λ xs. item ∷ xs) o.is_items; none = o.none }

-- where all structs of a tag have these fields
pub one_struct : (tag : Text) (fs : List Variable) (items : List Item) → Has (StructItem tag fs) items → ((gs : List Variable) → Has (StructItem tag gs) items → gs ≡ fs) → OneStruct tag fs items
one_struct tag fs [] h one = elim h [ ]
one_struct tag fs (item ∷ items) h one = ⊎_elim
    (λ none. at_top tag fs item items h none)
    (λ some. one_later tag fs item items (one_struct tag fs items (subst (λ gs. Has (StructItem tag gs) items) (one some.0 (Below _ _ _ some.1)) some.1) (λ gs k. one gs (Below _ _ _ k))))
    (decide tag items)

-- then they are the struct's
pub struct_of : (tag : Text) (fs : List Variable) (items : List Item) → Has (StructItem tag fs) items → ((gs : List Variable) → Has (StructItem tag gs) items → gs ≡ fs) → ScalarFields fs → IsStruct items tag fs
struct_of tag fs items h one s =
    let o = one_struct tag fs items h one in subst (λ xs. IsStruct xs tag fs) (sym o.is_items) (is_struct o.front o.back tag fs o.none s)
