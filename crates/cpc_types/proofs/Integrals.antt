-- Whether the cells of types are all integers.
use Rattle.std.proofs.Common.{◌≡◌, ℕ, ◌+◌, ◌<◌, ◌≤◌, inl, inr, suc, zero, Bool, true, false, ◌&&◌, ◌==◌, List, [], ◌∷◌, ◌++◌, length, get_or, drop, map, reverse, take, add-one, Option, Some, None, is_some, option_map, refl, ap, sym, subst, ◌∙◌, arith, length-append}
use Rattle.std.specs.Prelude.{slice_get}
use Rattle.std.proofs.lemmas.List.{take-append-le, get_or_push, get_or_append_left}
use Rattle.std.proofs.lemmas.Option.{slice_get_within}
use Rattle.std.proofs.Math.Seq.{take-append_seam, drop-cons}
use Rattle.cpc_base.specs.declared.names.Name.{Name}
use Rattle.cpc_base.proofs.Truth.{and_with_true, and_with_false}
use Rattle.cpc_tree.specs.Erase.{Names, type_of, item_of, field_of}
use Rattle.cpc_tree.specs.Syntax.{Ty, TyStruct, TyArray, Variable, Program}
use Rattle.cpc_tree.specs.Typing as T
use Rattle.cpc_tree.specs.Typing.{◌>>=◌}
use Rattle.cpc_tree.specs.declared.program.Field.{Field}
use Rattle.cpc_tree.specs.declared.program.Item.{Item}
use Rattle.cpc_tree.specs.declared.program.Item.TheVariants as I
use Rattle.cpc_check_rules.specs.Apart.{AreApart}
use Rattle.cpc_check_rules.specs.Calls as C
use Rattle.cpc_shapes.specs.Indexed.{is_name, last_below}
use Rattle.cpc_types.specs.Declaring.{AreDeclared}
use Rattle.cpc_shapes.specs.Counted.{tag_of}
use Rattle.cpc_types_structs.specs.Sized.{capped, capped_size}
use Rattle.cpc_types.specs.Integral.{have_integers, flag_at, tag_integral, AreIntegral, declared_integral, AreTold}
use Rattle.cpc_types.specs.Scoped.{all_items, scope_of}
use Rattle.cpc_types.specs.declared.items.Items.{Items}
use Rattle.cpc_types.specs.declared.scope.Scope.{Scope}
use Rattle.cpc_shapes.proofs.Latest.{map_reverse, absent, found}
use Rattle.cpc_shapes.proofs.Indexes.{pushed_at}
use Rattle.cpc_types.proofs.Declared.{within_all}
use Rattle.cpc_types.proofs.Scopes.{items_are}

-- ---- types

and_same : (a : Bool) → (a && a) ≡ a
and_same true = refl
and_same false = refl

all_append : (xs ys : List Ty) → C.all_integers (xs ++ ys) ≡ (C.all_integers xs && C.all_integers ys)
all_append [] ys = refl
all_append (x ∷ xs) ys = ap (λ b. C.is_integer x && b) (all_append xs ys) ∙ grouped (C.is_integer x) (C.all_integers xs) (C.all_integers ys) where
  grouped : (a b c : Bool) → (a && (b && c)) ≡ ((a && b) && c)
  grouped true b c = refl
  grouped false b c = refl

all_times : (n : ℕ) (xs : List Ty) → C.all_integers (T.times (suc n) xs) ≡ C.all_integers xs
all_times zero xs = all_append xs [] ∙ and_with_true (C.all_integers xs)
all_times (suc n) xs = all_append xs (T.times (suc n) xs) ∙ ap (λ b. C.all_integers xs && b) (all_times n xs) ∙ and_same (C.all_integers xs)

elements_are : (o : T.Cells) (n : ℕ) → C.are_integers (o >>= (λ (xs : List Ty). Some (T.times (suc n) xs))) ≡ C.are_integers o
elements_are None n = refl
elements_are (Some xs) n = all_times n xs

-- an array with elements
pub array_integers : (p : Program) (t : Ty) (n : ℕ) → (n == 0) ≡ false → C.are_integers (T.cells p (TyArray t n)) ≡ C.are_integers (T.cells p t)
array_integers p t zero e = absurd cc
array_integers p t (suc n) e = elements_are (T.cells p t) n

no_elements : (o : T.Cells) → is_some (option_map capped (o >>= (λ (xs : List Ty). Some (length xs)))) ≡ C.are_integers (o >>= (λ (xs : List Ty). Some (T.times 0 xs)))
no_elements None = refl
no_elements (Some xs) = refl

-- an array without any
pub empty_integers : (p : Program) (t : Ty) → is_some (capped_size p t) ≡ C.are_integers (T.cells p (TyArray t 0))
empty_integers p t = no_elements (T.cells p t)

-- ---- fields

both_integers : (a b : T.Cells) → C.are_integers (T.both a b) ≡ (C.are_integers a && C.are_integers b)
both_integers None b = refl
both_integers (Some xs) None = sym (and_with_false (C.all_integers xs))
both_integers (Some xs) (Some ys) = all_append xs ys

fields_next : (p : Program) (f : Variable) (fs : List Variable) → have_integers p (f ∷ fs) ≡ (C.are_integers (T.cells p f.type) && have_integers p fs)
fields_next p f fs = both_integers (T.cells p f.type) (T.fields_cells (T.struct_cells (reverse p)) fs)

fields_at : (names : Names) (p : Program) (fs : List Field) (i : ℕ) (x : Field) → i < length fs → x ≡ get_or fs i x
    → have_integers p (map (field_of names) (drop i fs)) ≡ (C.are_integers (T.cells p (type_of names x.of)) && have_integers p (map (field_of names) (drop (i + 1) fs)))
fields_at names p fs i x h is =
    let d : drop i fs ≡ x ∷ drop (i + 1) fs = drop-cons fs i x h ∙ ap (λ y. y ∷ drop (suc i) fs) (sym is) ∙ ap (λ j. x ∷ drop j fs) (sym (add-one i)) in
    ap (λ gs. have_integers p (map (field_of names) gs)) d ∙ fields_next p (field_of names x) (map (field_of names) (drop (i + 1) fs))

-- a field of integers, and those behind it
pub field_integers : (names : Names) (p : Program) (fs : List Field) (i : ℕ) (x : Field) (b : Bool) → i < length fs → x ≡ get_or fs i x → b ≡ C.are_integers (T.cells p (type_of names x.of)) → b ≡ true
    → have_integers p (map (field_of names) (drop i fs)) ≡ have_integers p (map (field_of names) (drop (i + 1) fs))
field_integers names p fs i x b h is e t = fields_at names p fs i x h is ∙ ap (λ c. c && have_integers p (map (field_of names) (drop (i + 1) fs))) (sym e ∙ t)

-- a field of others
pub field_others : (names : Names) (p : Program) (fs : List Field) (i : ℕ) (x : Field) (b : Bool) → i < length fs → x ≡ get_or fs i x → b ≡ C.are_integers (T.cells p (type_of names x.of)) → b ≡ false
    → have_integers p (map (field_of names) (drop i fs)) ≡ false
field_others names p fs i x b h is e t = fields_at names p fs i x h is ∙ ap (λ c. c && have_integers p (map (field_of names) (drop (i + 1) fs))) (sym e ∙ t)

-- ---- structs

module _ (names : Names) (apart : AreApart names) where
  whole_in : Name → List Item → Bool
  whole_in tag rs = C.are_integers (T.struct_cells (map (item_of names) rs) (names tag))

  whole_skip : (tag : Name) (y : Item) (ys : List Item) → is_name tag.0 (tag_of y) ≡ false → whole_in tag (y ∷ ys) ≡ whole_in tag ys
  unfolding whole_in
  whole_skip tag (I.Struct t fs) ys e = rw (apart.told t.name tag ∙ e) refl
  whole_skip tag _ ys e = refl

  whole_found : (tag : Name) (y : Item) (rs : List Item) (p : Program) → map (item_of names) rs ≡ reverse p → is_name tag.0 (tag_of y) ≡ true → whole_in tag (y ∷ rs) ≡ declared_integral names p y
  unfolding whole_in
  whole_found tag (I.Struct t fs) rs p e is = rw (apart.told t.name tag ∙ is) (ap (λ ys. C.are_integers (T.fields_cells (T.struct_cells ys) (map (field_of names) fs.items))) e)
  whole_found tag _ rs p e is = cc

  flag_found : (xs : List Item) (i : Items) (tag : Name) (n : ℕ) (o : Option ℕ) → AreTold xs i → n ≤ length xs → last_below n (map tag_of xs) tag.0 ≡ o
      → flag_at i.integral.items o ≡ whole_in tag (reverse (take n xs))
  unfolding whole_in
  flag_found xs i tag n None d h e = sym (absent Item Bool tag_of (whole_in tag) tag.0 (whole_skip tag) xs n e)
  flag_found xs i tag n (Some k) d h e =
      let f = found Item Bool tag_of (whole_in tag) tag.0 (whole_skip tag) xs n k h e in
      d.told k f.item f.at names apart
      ∙ sym (whole_found tag f.item (reverse (take k xs)) (map (item_of names) (take k xs)) (map_reverse (item_of names) (take k xs)) f.is)
      ∙ sym f.same

  flag_known : (xs : List Item) (i : Items) (tag : Name) → AreDeclared xs i → AreTold xs i → i.names.count ≤ length xs
      → tag_integral i tag ≡ C.are_integers (T.cells (map (item_of names) (take i.names.count xs)) (TyStruct (names tag)))
  unfolding whole_in
  flag_known xs i tag d t h =
      let n = i.names.count in
      ap (flag_at i.integral.items) (ap (λ m. last_below m i.declared.structs.tags.names.items tag.0) d.together ∙ ap (λ ks. last_below n ks tag.0) d.declares.structs.tags)
      ∙ flag_found xs i tag n (last_below n (map tag_of xs) tag.0) t h refl
      ∙ ap (λ ys. C.are_integers (T.struct_cells ys (names tag))) (map_reverse (item_of names) (take n xs))

  -- of the structs in scope
  pub flags_known : (xs : List Item) (i : Items) → AreDeclared xs i → AreTold xs i → i.names.count ≤ length xs → AreIntegral i names (map (item_of names) (take i.names.count xs))
  flags_known xs i d t h = record { each = λ tag. flag_known xs i tag d t h }

pub flags_scope : (names : Names) → AreApart names → (s : Scope) → AreIntegral s.items names (scope_of names s).items
flags_scope names apart s =
    let P : Program → Type 0 = AreIntegral s.items names in
    subst P (sym (items_are names s)) (flags_known names apart (all_items s) s.items s.declared s.told (within_all (all_items s) s.items s.declared))

-- one more item is told
module _ (xs : List Item) (y : Item) (i j : Items) (s : Bool) where
  flag_pushed : AreTold xs i → j.integral.items ≡ i.integral.items ++ s ∷ [] → ((names : Names) → AreApart names → s ≡ declared_integral names (map (item_of names) xs) y)
      → (k : ℕ) (x : Item) → slice_get (xs ++ y ∷ []) k ≡ Some x → (names : Names) → AreApart names → get_or j.integral.items k false ≡ declared_integral names (map (item_of names) (take k (xs ++ y ∷ []))) x
  flag_pushed d flags flag k x h names apart = elim (pushed_at xs y k x h) [
    | inl e ↦
        let g : k < length xs = slice_get_within xs k x e in
        let f : length i.integral.items ≡ length xs = d.even in
        ap (λ l. get_or l k false) flags
        ∙ get_or_append_left i.integral.items (s ∷ []) false k (omega arith)
        ∙ d.told k x e names apart
        ∙ sym (ap (λ l. declared_integral names (map (item_of names) l) x) (take-append-le k xs (y ∷ []) (omega arith)))
    | inr e ↦
        let f : length i.integral.items ≡ k = d.even ∙ sym e.0 in
        ap (λ l. get_or l k false) flags
        ∙ get_or_push i.integral.items s false k f
        ∙ flag names apart
        ∙ ap (declared_integral names (map (item_of names) xs)) e.1
        ∙ sym (ap (λ l. declared_integral names (map (item_of names) l) x) (ap (λ m. take m (xs ++ y ∷ [])) e.0 ∙ take-append_seam xs (y ∷ [])))
  ]

  pub told_more : AreTold xs i → j.integral.items ≡ i.integral.items ++ s ∷ [] → ((names : Names) → AreApart names → s ≡ declared_integral names (map (item_of names) xs) y) → AreTold (xs ++ y ∷ []) j
  told_more d flags flag = record {
    even =
        let f : length i.integral.items ≡ length xs = d.even in
        ap length flags ∙ length-append i.integral.items (s ∷ []) ∙ ap (λ n. n + 1) f ∙ sym (length-append xs (y ∷ []));
    told = flag_pushed d flags flag;
  }
