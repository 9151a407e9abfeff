-- Rows of breaches, noted one after the other.
use Rattle.std.proofs.Common.{◌≡◌, ℕ, suc, ◌+◌, ◌<◌, ◌≤◌, Bool, true, false, ◌||◌, not, List, [], ◌∷◌, ◌++◌, length, get_or, drop, map, Option, Some, None, is_some, option_map, refl, sym, ap, ◌∙◌, append_assoc}
use Rattle.std.specs.Prelude.{bytes_eq}
use Rattle.std.proofs.lemmas.List.{append-nil, drop_all, map_push, reverse-append}
use Rattle.std.specs.Prelude.{reverse, if◌then◌else◌}
use Rattle.cpc_base.specs.Bytes.{Text}
use Rattle.cpc_base.specs.declared.stop.Place.{Place}
use Rattle.cpc_base.specs.declared.stop.Dialect.{Dialect}
use Rattle.cpc_base.proofs.Truth.{or_regrouped, or_exchanged}
use Rattle.cpc_base.proofs.Lists.{drop_to_item, some_seen}
use Rattle.cpc_tree.specs.declared.program.Word.{Word}
use Rattle.cpc_tree.specs.declared.program.Field as GField
use Rattle.cpc_tree.specs.declared.program.Parameter as GParameter
use Rattle.cpc_tree.specs.Syntax.{Ty, TyStruct, Variable, Item, StructItem, GlobalItem, PrototypeItem, FunctionItem, Program}
use Rattle.cpc_tree.specs.Located.{Ident, LVariable, LParameter, bare_variable}
use Rattle.cpc_tree.specs.Typing as T
use Rattle.cpc_tree.specs.Typing.{◌>>=◌}
use Rattle.cpc_tree.specs.Erase.{Names, field_of}
use Rattle.cpc_tree.specs.Locate.{ident, located_field}
use Rattle.cpc_tree.proofs.Places.{bare_fields}
use Rattle.cpc_check_rules.specs.declared.rule.Rule.{Rule}
use Rattle.cpc_check_rules.specs.declared.rule.Rule.TheVariants.{Incomplete, Reserved}
use Rattle.cpc_check_rules.specs.Rule.{Broken, at_if}
use Rattle.cpc_check_rules.specs.Noted.{noted}
use Rattle.cpc_check_rules.specs.Scopes as S
use Rattle.cpc_check_rules.specs.FunctionRules.{is_reserved, reserved_breaks}
use Rattle.cpc_check_rules.specs.ItemRules as R
use Rattle.cpc_check_rules.proofs.Firsts.{noted_both}
use Rattle.cpc_shapes.specs.Counted.{fields_count, count}
use Rattle.cpc_check_items.specs.Signatures.{types_of}

abbrev Firsts : Type 0
Firsts = Option (Place × Rule)

-- one row and then another
pub in_turn : (o p q : Firsts) (a b : Broken) → p ≡ noted o a → q ≡ noted p b → q ≡ noted o (a ++ b)
in_turn o p q a b e f = f ∙ ap (λ x. noted x b) e ∙ sym (noted_both o a b)

-- what one element breaks, and then those behind it
pub row_step : (A : Type 0) (f : List A → Broken) (a : Broken) (xs : List A) (i : ℕ) (x : A) (o p r : Firsts) → i < length xs → x ≡ get_or xs i x → p ≡ noted o a
    → f (x ∷ drop (i + 1) xs) ≡ a ++ f (drop (i + 1) xs) → noted o (f (drop i xs)) ≡ r → noted p (f (drop (i + 1) xs)) ≡ r
row_step A f a xs i x o p r h is e g k =
    let rest = f (drop (i + 1) xs) in
    ap (λ y. noted y rest) e ∙ sym (noted_both o a rest) ∙ ap (noted o) (sym g) ∙ ap (λ l. noted o (f l)) (sym (drop_to_item xs i x h is)) ∙ k

-- parameters of no size, one by one
sized_named : (s : S.Scope) (o : Option Ident) (t : Ty) (ps : List LParameter)
    → R.sized_breaks s (record { called = o; type = t } ∷ ps) ≡ R.sized_breaks s (record { called = o; type = t } ∷ []) ++ R.sized_breaks s ps
sized_named s None t ps = refl
sized_named s (Some x) t ps = ap (λ row. row ++ R.sized_breaks s ps) (sym (append-nil (at_if (not (S.is_sized s t)) x.place Incomplete)))

pub sized_first : (s : S.Scope) (p : LParameter) (ps : List LParameter) → R.sized_breaks s (p ∷ ps) ≡ R.sized_breaks s (p ∷ []) ++ R.sized_breaks s ps
sized_first s p ps = sized_named s p.called p.type ps

-- the sizes of types hang on no block
abbrev alone : S.Scope → S.Scope
alone s = record { items = s.items; blocks = [] }

pub sized_alone : (s : S.Scope) (ps : List LParameter) → R.sized_breaks s ps ≡ R.sized_breaks (record { items = s.items; blocks = [] }) ps
sized_alone s [] = refl
sized_alone s (p ∷ ps) = sized_first s p ps ∙ ap (λ row. R.sized_breaks s (p ∷ []) ++ row) (sized_alone s ps) ∙ sym (sized_first (alone s) p ps)

pub fields_alone : (s : S.Scope) (fs : List LVariable) → R.fields_breaks s fs ≡ R.fields_breaks (record { items = s.items; blocks = [] }) fs
fields_alone s [] = refl
fields_alone s (f ∷ fs) = ap (λ row. at_if (not (S.is_sized s f.type)) f.called.place Incomplete ++ row) (fields_alone s fs)

-- kept names of two rows
pub reserved_both : (dialect : Dialect) (xs ys : List Ident) → reserved_breaks dialect (xs ++ ys) ≡ reserved_breaks dialect xs ++ reserved_breaks dialect ys
reserved_both dialect [] ys = refl
reserved_both dialect (x ∷ xs) ys =
    let here = at_if (is_reserved dialect x.text) x.place Reserved in
    ap (λ row. here ++ row) (reserved_both dialect xs ys) ∙ sym (append_assoc here (reserved_breaks dialect xs) (reserved_breaks dialect ys))

-- ---- fields

-- the names so far, one more field and the rest
pub words_more : (names : Names) (ws vs : List Word) (fs : List GField.Field) (i : ℕ) (f : GField.Field) → i < length fs → f ≡ get_or fs i f → vs ≡ ws ++ f.word ∷ []
    → map (ident names) vs ++ R.field_names (map (located_field names) (drop (i + 1) fs)) ≡ map (ident names) ws ++ R.field_names (map (located_field names) (drop i fs))
words_more names ws vs fs i f h is e =
    let rest = R.field_names (map (located_field names) (drop (i + 1) fs)) in
    ap (λ l. map (ident names) l ++ rest) e ∙ ap (λ l. l ++ rest) (map_push (ident names) ws f.word)
    ∙ append_assoc (map (ident names) ws) (ident names f.word ∷ []) rest
    ∙ ap (λ l. map (ident names) ws ++ R.field_names (map (located_field names) l)) (sym (drop_to_item fs i f h is))

pub words_end : (names : Names) (row : List Ident) (fs : List GField.Field) (i : ℕ) → length fs ≤ i → row ++ R.field_names (map (located_field names) (drop i fs)) ≡ row
words_end names row fs i h = ap (λ l. row ++ R.field_names (map (located_field names) l)) (drop_all i fs h) ∙ append-nil row

-- the cells of a struct are those of its fields
struct_count : (p : Program) (tag : Text) (fs : List Variable) → bytes_eq tag tag ≡ true → T.size (p ++ StructItem tag fs ∷ []) (TyStruct tag) ≡ fields_count p fs
struct_count p tag fs e =
    ap (λ (items : List Item). count (T.struct_cells items tag)) (reverse-append p (StructItem tag fs ∷ []))
    ∙ ap (λ b. count (if b then T.fields_cells (T.struct_cells (reverse p)) fs else T.struct_cells (reverse p) tag)) e

pub oversized_is : (names : Names) (p : Program) (tag : Text) (fs : List GField.Field) → bytes_eq tag tag ≡ true
    → R.is_oversized (fields_count p (map (field_of names) fs)) ≡ R.is_oversized (T.size (p ++ StructItem tag (map bare_variable (map (located_field names) fs)) ∷ []) (TyStruct tag))
oversized_is names p tag fs e =
    ap (λ l. R.is_oversized (fields_count p l)) (sym (bare_fields names fs))
    ∙ ap R.is_oversized (sym (struct_count p tag (map bare_variable (map (located_field names) fs)) e))

-- ---- tags

struct_both : (tag : Text) (xs ys : Program) → R.is_struct tag (xs ++ ys) ≡ (R.is_struct tag xs || R.is_struct tag ys)
struct_both tag [] ys = refl
struct_both tag (StructItem t fs ∷ xs) ys = ap (λ b. bytes_eq t tag || b) (struct_both tag xs ys) ∙ or_regrouped (bytes_eq t tag) (R.is_struct tag xs) (R.is_struct tag ys)
struct_both tag (GlobalItem g t start ∷ xs) ys = struct_both tag xs ys
struct_both tag (PrototypeItem mode f r ps ∷ xs) ys = struct_both tag xs ys
struct_both tag (FunctionItem f ∷ xs) ys = struct_both tag xs ys

struct_here : (tag : Text) (x : Item) (xs : Program) → R.is_struct tag (x ∷ xs) ≡ (R.is_struct tag xs || R.is_struct tag (x ∷ []))
struct_here tag x xs = struct_both tag (x ∷ []) xs ∙ or_exchanged (R.is_struct tag (x ∷ [])) (R.is_struct tag xs)

struct_back : (tag : Text) (xs : Program) → R.is_struct tag (reverse xs) ≡ R.is_struct tag xs
struct_back tag [] = refl
struct_back tag (x ∷ xs) =
    ap (R.is_struct tag) (reverse-append (x ∷ []) xs) ∙ struct_both tag (reverse xs) (x ∷ []) ∙ ap (λ b. b || R.is_struct tag (x ∷ [])) (struct_back tag xs) ∙ sym (struct_here tag x xs)

chosen : (b : Bool) (fs : List Variable) (o : Option (List Variable)) → is_some (if b then Some fs else o) ≡ (b || is_some o)
chosen true fs o = refl
chosen false fs o = refl

fields_known : (tag : Text) (xs : Program) → is_some (T.fields_in xs tag) ≡ R.is_struct tag xs
fields_known tag [] = refl
fields_known tag (StructItem t fs ∷ xs) = chosen (bytes_eq t tag) fs (T.fields_in xs tag) ∙ ap (λ b. bytes_eq t tag || b) (fields_known tag xs)
fields_known tag (GlobalItem g t start ∷ xs) = fields_known tag xs
fields_known tag (PrototypeItem mode f r ps ∷ xs) = fields_known tag xs
fields_known tag (FunctionItem f ∷ xs) = fields_known tag xs

-- a tag has fields where a struct declares it
pub tag_known : {A : Type 0} (f : A → List Variable) (o : Option A) (p : Program) (tag : Text) → option_map f o ≡ T.fields p tag → is_some o ≡ R.is_struct tag p
tag_known f o p tag e = sym (some_seen f o) ∙ ap is_some e ∙ fields_known tag (reverse p) ∙ struct_back tag p

-- ---- parameters

pub types_length : (names : Names) (ps : List GParameter.Parameter) → length (types_of names ps) ≡ length ps
types_length names [] = refl
types_length names (p ∷ ps) = ap suc (types_length names ps)
