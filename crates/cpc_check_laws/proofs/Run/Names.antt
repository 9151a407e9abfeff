-- Names that the language keeps stand for nothing in a program that breaks no rule.
use Rattle.std.proofs.Common.{◌≡◌, Bool, true, false, ◌&&◌, List, [], ◌∷◌, ◌++◌, reverse, Option, Some, None, bytes_eq, cond, refl, sym, ◌∙◌, ap}
use Rattle.std.proofs.lemmas.List.{reverse-append}
use Rattle.cpc_base.specs.Bytes.{Text}
use Rattle.cpc_base.specs.declared.stop.Dialect.TheVariants as D
use Rattle.cpc_base.proofs.Truth.{and_first, and_second, or_neither}
use Rattle.cpc_tree.specs.Syntax.{Ty, Variable, Program}
use Rattle.cpc_tree.specs.Located.{Ident, LParameter, LItem, LStruct, LGlobal, LPrototype, LFunctionItem, bare_item}
use Rattle.cpc_tree.specs.Typing.{Meant, NotMeant}
use Rattle.cpc_tree.specs.Primitives.{Primitive, primitives, primitive_in, primitive_named}
use Rattle.cpc_check_rules.specs.declared.rule.Rule.TheVariants.{Reserved}
use Rattle.cpc_check_rules.specs.Rule.{at_if}
use Rattle.cpc_check_rules.specs.Scopes as S
use Rattle.cpc_check_rules.specs.Scopes.{Scope, in_block, in_items, in_blocks, meant, with_name, with_block}
use Rattle.cpc_check_rules.specs.FunctionRules.{is_kept, is_reserved, holds_underscores, reserved_breaks, parameter_names}
use Rattle.cpc_check_rules.specs.ItemRules.{parameter_block}
use Rattle.cpc_meaning.proofs.Functions.{same_text}
use Rattle.cpc_check_laws.proofs.Native.NativeValues.{left_none, right_none, unbroken}

-- ---- names of primitives

all_kept : List (Text × Primitive) → Bool
all_kept [] = true
all_kept (p ∷ ps) = is_kept p.0 && all_kept ps

kept_in : (ps : List (Text × Primitive)) → all_kept ps ≡ true → (x : Text) (prim : Primitive) → primitive_in ps x ≡ Some prim → is_kept x ≡ true
unfolding all_kept
kept_in [] h x prim e = absurd cc
kept_in (p ∷ ps) h x prim e = go (bytes_eq p.0 x) refl (kept_in ps (and_second (is_kept p.0) (all_kept ps) h) x prim) e
  where
    go : (b : Bool) → bytes_eq p.0 x ≡ b → (primitive_in ps x ≡ Some prim → is_kept x ≡ true) → cond b (Some p.1) (primitive_in ps x) ≡ Some prim → is_kept x ≡ true
    go true i later k = ap is_kept (sym (same_text p.0 x i)) ∙ and_first (is_kept p.0) (all_kept ps) h
    go false i later k = later k

-- the names of primitives are kept
pub primitive_kept : (x : Text) (prim : Primitive) → primitive_named x ≡ Some prim → is_kept x ≡ true
unfolding all_kept
primitive_kept x prim e = kept_in primitives refl x prim e

-- ---- names that are not reserved

-- names of which none is reserved
abbrev pub Unreserved : List Ident → Type 0
Unreserved xs = reserved_breaks D.Cpc xs ≡ []

first_unreserved : (x : Ident) (xs : List Ident) → Unreserved (x ∷ xs) → is_reserved D.Cpc x.text ≡ false
first_unreserved x xs h = unbroken (is_reserved D.Cpc x.text) x.place Reserved (left_none (at_if (is_reserved D.Cpc x.text) x.place Reserved) _ h)

pub first_unkept : (x : Ident) (xs : List Ident) → Unreserved (x ∷ xs) → is_kept x.text ≡ false
first_unkept x xs h = (or_neither (is_kept x.text) (holds_underscores x.text) (first_unreserved x xs h)).0

pub first_no_underscores : (x : Ident) (xs : List Ident) → Unreserved (x ∷ xs) → holds_underscores x.text ≡ false
first_no_underscores x xs h = (or_neither (is_kept x.text) (holds_underscores x.text) (first_unreserved x xs h)).1

pub rest_unreserved : (x : Ident) (xs : List Ident) → Unreserved (x ∷ xs) → Unreserved xs
rest_unreserved x xs h = right_none (at_if (is_reserved D.Cpc x.text) x.place Reserved) _ h

pub front_unreserved : (xs ys : List Ident) → Unreserved (xs ++ ys) → Unreserved xs
front_unreserved [] ys h = refl
front_unreserved (x ∷ xs) ys h = simp (left_none (at_if (is_reserved D.Cpc x.text) x.place Reserved) _ h, front_unreserved xs ys (rest_unreserved x (xs ++ ys) h)) refl

pub back_unreserved : (xs ys : List Ident) → Unreserved (xs ++ ys) → Unreserved ys
back_unreserved [] ys h = h
back_unreserved (x ∷ xs) ys h = back_unreserved xs ys (rest_unreserved x (xs ++ ys) h)

-- ---- scopes

-- a name that is kept is not the name of what is not
pub other_name : (y x : Text) → is_kept y ≡ false → is_kept x ≡ true → bytes_eq y x ≡ false
other_name y x h k = go (bytes_eq y x) refl
  where
    go : (b : Bool) → bytes_eq y x ≡ b → b ≡ false
    go true e = let i : y ≡ x = same_text y x e in absurd (let j : true ≡ false = sym k ∙ sym (ap is_kept i) ∙ h in cc)
    go false e = refl

-- where no kept name stands for anything
abbrev pub NoneKept : Scope → Type 0
NoneKept s = (x : Text) → is_kept x ≡ true → meant s x ≡ NotMeant

pub block_none_kept : (s : Scope) → NoneKept s → NoneKept (with_block s)
block_none_kept s h x k = h x k

one_more : (bs : List S.Block) (v : Variable) (m : Meant) (x : Text) → bytes_eq v.called x ≡ false → in_blocks (with_name (record { items = []; blocks = bs }) v).blocks m x ≡ in_blocks bs m x
one_more [] v m x e = simp (e) refl
one_more (b ∷ bs) v m x e = simp (e) refl

pub name_none_kept : (s : Scope) (v : Variable) → is_kept v.called ≡ false → NoneKept s → NoneKept (with_name s v)
name_none_kept s v u h x k = one_more s.blocks v (in_items (reverse s.items) x) x (other_name v.called x u k) ∙ h x k

-- ---- parameters

parameter_apart : (o : Option Ident) (t : Ty) (ps : List LParameter) → Unreserved (parameter_names (record { called = o; type = t } ∷ ps)) → (x : Text) → is_kept x ≡ true → (block : S.Block)
    → ((block : S.Block) → Unreserved (parameter_names ps) → in_block (parameter_block block ps) x ≡ in_block block x)
    → in_block (parameter_block block (record { called = o; type = t } ∷ ps)) x ≡ in_block block x
parameter_apart None t ps h x k block later = later block h
parameter_apart (Some y) t ps h x k block later =
    later (record { called = y.text; type = t } ∷ block) (rest_unreserved y (parameter_names ps) h) ∙ ap (λ b. cond b (Some t) (in_block block x)) (other_name y.text x (first_unkept y (parameter_names ps) h) k)

-- no kept name is that of a parameter
pub parameters_apart : (ps : List LParameter) → Unreserved (parameter_names ps) → (x : Text) → is_kept x ≡ true → (block : S.Block) → in_block (parameter_block block ps) x ≡ in_block block x
parameters_apart [] h x k block = refl
parameters_apart (p ∷ ps) h x k block = parameter_apart p.called p.type ps h x k block (λ b u. parameters_apart ps u x k b)

-- ---- items

-- items that declare no kept name
abbrev pub NoneDeclared : Program → Type 0
NoneDeclared before = (x : Text) → is_kept x ≡ true → in_items (reverse before) x ≡ NotMeant

-- the name that an item declares, of a variable or a function
abbrev pub item_name : LItem → List Ident
item_name (LStruct tag fs) = []
item_name (LGlobal x t start) = x ∷ []
item_name (LPrototype q mode x r ps) = x ∷ []
item_name (LFunctionItem f) = f.called ∷ []

last_apart : (y : LItem) → Unreserved (item_name y) → (items : Program) (x : Text) → is_kept x ≡ true → in_items (bare_item y ∷ items) x ≡ in_items items x
last_apart (LStruct tag fs) h items x k = refl
last_apart (LGlobal y t start) h items x k = simp (other_name y.text x (first_unkept y [] h) k) refl
last_apart (LPrototype q mode y r ps) h items x k = simp (other_name y.text x (first_unkept y [] h) k) refl
last_apart (LFunctionItem f) h items x k = simp (other_name f.called.text x (first_unkept f.called [] h) k) refl

pub more_none_declared : (before : Program) (y : LItem) → Unreserved (item_name y) → NoneDeclared before → NoneDeclared (before ++ bare_item y ∷ [])
more_none_declared before y u h x k = ap (λ items. in_items items x) (reverse-append before (bare_item y ∷ [])) ∙ last_apart y u (reverse before) x k ∙ h x k
