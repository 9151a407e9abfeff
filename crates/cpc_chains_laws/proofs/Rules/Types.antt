-- Types among more items: what is complete stays so, with the same cells; sizes of structs, and names of fields apart.
use Rattle.std.proofs.Common.{◌≡◌, ℕ, suc, ◌≤◌, true, false, not, ◌||◌, cond, List, [], ◌∷◌, ◌++◌, reverse, map, length, Option, Some, None, refl, sym, ◌∙◌, ap, subst, append_assoc, append-nil, arith}
use Rattle.std.proofs.lemmas.Bool.Decides.{nat_tests}
use Rattle.cpc_base.specs.Bytes.{Text}
use Rattle.cpc_base.specs.declared.stop.Dialect.TheVariants as D
use Rattle.cpc_tree.specs.Syntax.{Ty, TyStruct, Variable, Item, StructItem, GlobalItem, PrototypeItem, FunctionItem, Program}
use Rattle.cpc_tree.specs.Located.{Ident, LVariable, LParameter}
use Rattle.cpc_tree.specs.Typing.{◌>>=◌, Cells, both, cells, fields_cells, struct_cells, field, size, is_scalar}
use Rattle.cpc_tree.proofs.Options.{then_some}
use Rattle.cpc_check_rules.specs.declared.rule.Rule.TheVariants.{Twice, Incomplete}
use Rattle.cpc_check_rules.specs.Rule.{at_if}
use Rattle.cpc_check_rules.specs.Scopes.{Scope, has_cells, is_sized}
use Rattle.cpc_check_rules.specs.FunctionRules.{among, repeated}
use Rattle.cpc_check_rules.specs.ItemRules.{is_oversized, field_names, fields_breaks, sized_breaks}
use Rattle.cpc_check_laws.proofs.Native.NativeValues.{left_none, right_none, both_none}
use Rattle.cpc_check_laws.proofs.Native.OnePlace.{here, variable_here}
use Rattle.cpc_meaning.proofs.Functions.{text_same, scalar_size}
use Rattle.cpc_check_laws.proofs.Sound.Options.{then_of}
use Rattle.cpc_check_laws.proofs.Sound.Agreement.{Grows, sizes_grow}
use Rattle.cpc_check_laws.proofs.Sound.Bodies.{size_of}
use Rattle.cpc_check_laws.proofs.Sound.Growing.{IsFresh, grows_step, grows_same, grows_on}
use Rattle.cpc_check_laws.proofs.Sound.Items.{last_first}
use Rattle.cpc_check_laws.proofs.Sound.Unbroken.{holds_then}
use Rattle.cpc_convert_common.specs.Marks.{has_marks}
use Rattle.cpc_convert_common.specs.Members.{Has, OnTop, Below}
use Rattle.cpc_convert_flat_laws.specs.Structs.{NotCalled, NotSo, ScalarFields, NoFields, AndField}
use Rattle.cpc_convert_flat_laws.proofs.Structs.{scalar_cells}
use Rattle.cpc_convert_routines.specs.Kept.{kept_items}
use Rattle.cpc_convert_routines.specs.Named.{IsUnmarked}
use Rattle.cpc_chains_event.proofs.Extending.{Beyond, BothEnd, BothHave, OneMore, LeftHas, RightHas, beyond_append, beyond_more, extending}
use Rattle.cpc_chains_event.proofs.Boxing.{size_known}
use Rattle.cpc_lifted_laws.proofs.Rules.Rows.{rows}
use Rattle.cpc_lifted_laws.proofs.Rules.Source.{struct_once}
use Rattle.cpc_chains_laws.proofs.Rules.Kept.{KeptItem, KeepStruct, KeepGlobal, KeepPrototype, KeepFunction, Stays, DoesStay, IsLeft, stays, kept_more}

-- ---- more items

pub grows_of : (p q : Program) → Beyond p q → Grows p q
grows_of p q b =
    let e = extending p q b in
    record { cells = λ t ts h. size_known (cells p t) (cells q t) ts (e.cells t) h; fields = λ tag x f h. size_known (field p tag x) (field q tag x) f (e.fields tag x) h }

-- items of which all structs are marked
pub beyond_none : (xs : Program) → ((tag : Text) (fs : List Variable) → Has (StructItem tag fs) xs → has_marks tag ≡ true) → Beyond [] xs
beyond_none [] h = BothEnd
beyond_none (StructItem tag fs ∷ xs) h = OneMore tag fs [] xs (h tag fs (OnTop _ xs)) (beyond_none xs (λ t gs k. h t gs (Below _ _ xs k)))
beyond_none (GlobalItem x t s ∷ xs) h = RightHas _ [] xs refl (beyond_none xs (λ t gs k. h t gs (Below _ _ xs k)))
beyond_none (PrototypeItem m f r ps ∷ xs) h = RightHas _ [] xs refl (beyond_none xs (λ t gs k. h t gs (Below _ _ xs k)))
beyond_none (FunctionItem f ∷ xs) h = RightHas _ [] xs refl (beyond_none xs (λ t gs k. h t gs (Below _ _ xs k)))

unstruct : (x : Item) (xs ys : Program) → ((zs : Program) → kept_items (x ∷ zs) ≡ kept_items zs) → Beyond xs ys → ((tag : Text) (fs : List Variable) → x ≡ StructItem tag fs → ⊥) → Beyond (x ∷ xs) ys
unstruct (StructItem tag fs) xs ys left b none = absurd (none tag fs refl)
unstruct (GlobalItem x t s) xs ys left b none = LeftHas _ xs ys refl b
unstruct (PrototypeItem m f r ps) xs ys left b none = LeftHas _ xs ys refl b
unstruct (FunctionItem f) xs ys left b none = LeftHas _ xs ys refl b

structs_stay : (x : Item) → ((zs : Program) → kept_items (x ∷ zs) ≡ kept_items zs) → (tag : Text) (fs : List Variable) → x ≡ StructItem tag fs → ⊥
structs_stay x left tag fs e = let z : StructItem tag fs ∷ [] ≡ [] = ap (λ y. kept_items (y ∷ [])) (sym e) ∙ left [] in absurd (cc)

kept_one : (x y : Item) (xs : Program) → KeptItem x y → IsUnmarked x → Beyond xs (kept_items xs) → Beyond (x ∷ xs) (y ∷ kept_items xs)
kept_one _ _ xs (KeepStruct tag fs) u b = BothHave tag fs xs _ u b
kept_one _ _ xs (KeepGlobal x t s) u b = LeftHas _ xs _ refl (RightHas _ xs _ refl b)
kept_one _ _ xs (KeepPrototype m f r ps e) u b = LeftHas _ xs _ refl (RightHas _ xs _ refl b)
kept_one _ _ xs (KeepFunction f e) u b = LeftHas _ xs _ refl (RightHas _ xs _ refl b)

-- the items that stay have the structs of all
pub beyond_kept : (xs : Program) → ((x : Item) → Has x xs → IsUnmarked x) → Beyond xs (kept_items xs)
beyond_kept [] h = BothEnd
beyond_kept (x ∷ xs) h = go (stays x) (beyond_kept xs (λ y k. h y (Below _ _ xs k)))
  where
    go : Stays x → Beyond xs (kept_items xs) → Beyond (x ∷ xs) (kept_items (x ∷ xs))
    go (DoesStay y k) b = subst (Beyond (x ∷ xs)) (sym (kept_more x y xs k)) (kept_one x y xs k (h x (OnTop x xs)) b)
    go (IsLeft left) b = subst (Beyond (x ∷ xs)) (sym (left xs)) (unstruct x xs (kept_items xs) left b (structs_stay x left))

-- behind others, and with more behind them
pub beyond_whole : (front xs behind : Program) → ((x : Item) → Has x xs → IsUnmarked x) → Beyond [] front → Beyond [] behind → Beyond xs (front ++ (kept_items xs ++ behind))
beyond_whole front xs behind h f b = beyond_append [] front xs (kept_items xs ++ behind) f (beyond_more xs (kept_items xs) behind (beyond_kept xs h) b)

-- the items up to some place grow to all of them
module _ (p : Program) (fine : rows D.Cpc p [] p ≡ []) where
  fresh_at : (front : Program) (x : Item) (back : Program) → p ≡ front ++ x ∷ back → IsFresh front x
  fresh_at front (StructItem tag fs) back e = struct_once p fine front tag fs back e
  fresh_at front (GlobalItem x t s) back e = tt
  fresh_at front (PrototypeItem m f r ps) back e = tt
  fresh_at front (FunctionItem f) back e = tt

  pub grows_at : (front back : Program) → p ≡ front ++ back → Grows front p
  grows_at front [] e = subst (Grows front) (sym (append-nil front) ∙ sym e) (grows_same front)
  grows_at front (x ∷ back) e =
      grows_on front (front ++ x ∷ []) p (grows_step front x (fresh_at front x back e)) (grows_at (front ++ x ∷ []) back (e ∙ sym (append_assoc front (x ∷ []) back)))

-- ---- types that have cells

-- a type with so many cells
pub sized : (s : Scope) (t : Ty) (n : ℕ) → size s.items t ≡ Some n → has_cells (Some n) ≡ true → is_sized s t ≡ true
sized s t n e h = ap has_cells e ∙ h

pub sized_more : (s u : Scope) → Grows s.items u.items → (t : Ty) → is_sized s t ≡ true → is_sized u t ≡ true
sized_more s u g t h =
    let n = size_of s t h in
    ap has_cells (sizes_grow s.items u.items g t n.0 n.1) ∙ (ap has_cells (sym n.1) ∙ h)

pub scalar_sized : (s : Scope) (t : Ty) → is_scalar t ≡ true → is_sized s t ≡ true
scalar_sized s t e = sized s t 1 (scalar_size s.items t e) refl

-- fields of types that have cells
pub fields_more : (s u : Scope) → Grows s.items u.items → (fs : List LVariable) → fields_breaks s fs ≡ [] → fields_breaks u fs ≡ []
fields_more s u g [] h = refl
fields_more s u g (f ∷ fs) h =
    both_none _ _ (ap (λ b. at_if (not b) f.called.place Incomplete) (sized_more s u g f.type (holds_then (is_sized s f.type) f.called.place Incomplete (left_none _ _ h))))
    (fields_more s u g fs (right_none (at_if (not (is_sized s f.type)) f.called.place Incomplete) _ h))

one_more : (s u : Scope) → Grows s.items u.items → (t : Ty) (o : Option Ident) (ps : List LParameter) → sized_breaks s (record { called = o; type = t } ∷ ps) ≡ [] → (sized_breaks s ps ≡ [] → sized_breaks u ps ≡ [])
    → sized_breaks u (record { called = o; type = t } ∷ ps) ≡ []
one_more s u g t None ps h rest = rest h
one_more s u g t (Some x) ps h rest =
    both_none _ _ (ap (λ b. at_if (not b) x.place Incomplete) (sized_more s u g t (holds_then (is_sized s t) x.place Incomplete (left_none _ _ h))))
    (rest (right_none (at_if (not (is_sized s t)) x.place Incomplete) _ h))

-- and so parameters
pub parameters_more : (s u : Scope) → Grows s.items u.items → (ps : List LParameter) → sized_breaks s ps ≡ [] → sized_breaks u ps ≡ []
parameters_more s u g [] h = refl
parameters_more s u g (q ∷ ps) h = one_more s u g q.type q.called ps h (λ i. parameters_more s u g ps i)

-- ---- the size of a struct behind others

own_cells : (before : Program) (tag : Text) (fs : List Variable) → cells (before ++ StructItem tag fs ∷ []) (TyStruct tag) ≡ fields_cells (struct_cells (reverse before)) fs
own_cells before tag fs =
    ap (λ q. struct_cells q tag) (last_first before (StructItem tag fs)) ∙ ap (λ b. cond b (fields_cells (struct_cells (reverse before)) fs) (struct_cells (reverse before) tag)) (text_same tag)

pub own_size : (before : Program) (tag : Text) (fs : List Variable) (ts : List Ty) → fields_cells (struct_cells (reverse before)) fs ≡ Some ts → size (before ++ StructItem tag fs ∷ []) (TyStruct tag) ≡ Some (length ts)
own_size before tag fs ts e = ap (λ o. o >>= λ xs. Some (length xs)) (own_cells before tag fs ∙ e)

fields_grow : (b c : Program) → Grows b c → (fs : List Variable) (ts : List Ty) → fields_cells (struct_cells (reverse b)) fs ≡ Some ts → fields_cells (struct_cells (reverse c)) fs ≡ Some ts
fields_grow b c g [] ts e = e
fields_grow b c g (f ∷ fs) ts e =
    let k = then_some (cells b f.type) (λ xs. fields_cells (struct_cells (reverse b)) fs >>= λ ys. Some (xs ++ ys)) ts e in
    let l = then_some (fields_cells (struct_cells (reverse b)) fs) (λ ys. Some (k.0 ++ ys)) ts k.2 in
    then_of (cells c f.type) (λ xs. fields_cells (struct_cells (reverse c)) fs >>= λ ys. Some (xs ++ ys)) k.0 ts (g.cells f.type k.0 k.1)
    (then_of (fields_cells (struct_cells (reverse c)) fs) (λ ys. Some (k.0 ++ ys)) l.0 ts (fields_grow b c g fs l.0 l.1) l.2)

-- fields of types that have cells have cells
pub fields_complete : (s : Scope) (fs : List Variable) → fields_breaks s (map variable_here fs) ≡ [] → (ts : List Ty) × (fields_cells (struct_cells (reverse s.items)) fs ≡ Some ts)
fields_complete s [] h = ([], refl)
fields_complete s (f ∷ fs) h =
    let n = size_of s f.type (holds_then (is_sized s f.type) here Incomplete (left_none _ _ h)) in
    let k = then_some (cells s.items f.type) (λ xs. Some (length xs)) n.0 n.1 in
    let rest = fields_complete s fs (right_none (at_if (not (is_sized s f.type)) here Incomplete) _ h) in
    (k.0 ++ rest.0, then_of (cells s.items f.type) (λ xs. fields_cells (struct_cells (reverse s.items)) fs >>= λ ys. Some (xs ++ ys)) k.0 _ k.1 (then_of (fields_cells (struct_cells (reverse s.items)) fs) (λ ys. Some (k.0 ++ ys)) rest.0 _ rest.1 refl))

-- where a struct is not oversized behind some items, it is not behind more
pub struct_more : (s u : Scope) → Grows s.items u.items → (tag : Text) (fs : List Variable) → fields_breaks s (map variable_here fs) ≡ []
    → is_oversized (size (s.items ++ StructItem tag fs ∷ []) (TyStruct tag)) ≡ false → is_oversized (size (u.items ++ StructItem tag fs ∷ []) (TyStruct tag)) ≡ false
struct_more s u g tag fs h e =
    let ts = fields_complete s fs h in
    ap is_oversized (own_size u.items tag fs ts.0 (fields_grow s.items u.items g fs ts.0 ts.1)) ∙ (ap is_oversized (sym (own_size s.items tag fs ts.0 ts.1)) ∙ e)

-- ---- structs of scalar fields

abbrev pub types_of : List Variable → List Ty
types_of fs = map (λ (x : Variable). x.type) fs

scalars_cells : (tags : Text → Cells) (fs : List Variable) → ScalarFields fs → fields_cells tags fs ≡ Some (types_of fs)
scalars_cells tags _ NoFields = refl
scalars_cells tags _ (AndField f fs s n h) = ap (λ o. both o (fields_cells tags fs)) (scalar_cells tags f.type s) ∙ ap (λ o. both (Some (f.type ∷ [])) o) (scalars_cells tags fs h)

types_length : (fs : List Variable) → length (types_of fs) ≡ length fs
types_length [] = refl
types_length (f ∷ fs) = ap suc (types_length fs)

not_over : (n : ℕ) → n ≤ 1024 → is_oversized (Some n) ≡ false
not_over n h = grind (arith, nat_tests)

pub scalars_fit : (before : Program) (tag : Text) (fs : List Variable) → ScalarFields fs → length fs ≤ 1024 → is_oversized (size (before ++ StructItem tag fs ∷ []) (TyStruct tag)) ≡ false
scalars_fit before tag fs s h = ap is_oversized (own_size before tag fs (types_of fs) (scalars_cells (struct_cells (reverse before)) fs s)) ∙ not_over (length (types_of fs)) (subst (λ n. n ≤ 1024) (sym (types_length fs)) h)

pub scalars_sized : (s : Scope) (fs : List Variable) → ScalarFields fs → fields_breaks s (map variable_here fs) ≡ []
scalars_sized s _ NoFields = refl
scalars_sized s _ (AndField f fs e n h) = both_none _ _ (ap (λ b. at_if (not b) here Incomplete) (scalar_sized s f.type e)) (scalars_sized s fs h)

-- none of these names is among those before them
abbrev Fresh : List Ident → List Variable → Type 0
Fresh before [] = Unit {0}
Fresh before (f ∷ fs) = (among f.called before ≡ false) × Fresh before fs

fresh_more : (before : List Ident) (x : Ident) (fs : List Variable) → Fresh before fs → NotCalled x.text fs → Fresh (x ∷ before) fs
fresh_more before x [] h n = tt
fresh_more before x (f ∷ fs) h (NotSo _ _ e n) = (ap (λ b. b || among f.called before) e ∙ h.0, fresh_more before x fs h.1 n)

repeats_none : (before : List Ident) (fs : List Variable) → Fresh before fs → ScalarFields fs → repeated Twice before (field_names (map variable_here fs)) ≡ []
repeats_none before [] h s = refl
repeats_none before (f ∷ fs) h (AndField _ _ e n s) = both_none _ _ (ap (λ b. at_if b here Twice) h.0) (repeats_none ((variable_here f).called ∷ before) fs (fresh_more before (variable_here f).called fs h.1 n) s)

fresh_none : (fs : List Variable) → Fresh [] fs
fresh_none [] = tt
fresh_none (f ∷ fs) = (refl, fresh_none fs)

-- their names are apart
pub scalars_apart : (fs : List Variable) → ScalarFields fs → repeated Twice [] (field_names (map variable_here fs)) ≡ []
scalars_apart fs s = repeats_none [] fs (fresh_none fs) s
