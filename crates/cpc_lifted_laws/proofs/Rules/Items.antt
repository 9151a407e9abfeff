-- What items declare, by each of them: tags of structs, functions that are defined, names that are taken, and declarations beside which another may stand.
use Rattle.std.proofs.Common.{◌≡◌, ◌⊎◌, inl, inr, Bool, true, false, ◌&&◌, not, List, [], ◌∷◌, map, bytes_eq, refl, sym, ◌∙◌, subst}
use Rattle.cpc_base.specs.Bytes.{Text}
use Rattle.cpc_base.proofs.Truth.{or_neither, or_both_fail, false_unless_true, never_both}
use Rattle.cpc_tree.specs.declared.program.Mode.{Mode}
use Rattle.cpc_tree.specs.Syntax.{Ty, Variable, Parameter, Item, StructItem, GlobalItem, PrototypeItem, FunctionItem, Program}
use Rattle.cpc_tree.specs.Typing.{parameter_type}
use Rattle.cpc_check_rules.specs.ItemRules.{Signature, is_struct, is_item, is_clash, is_disagreeing, clashes, agrees, disagrees}
use Rattle.cpc_meaning.proofs.Functions.{texts_differ}
use Rattle.cpc_convert_common.specs.Members.{Has, OnTop, Below}

-- ---- what a row has none of

-- no struct of a tag
pub no_struct : (tag : Text) (xs : Program) → ((fs : List Variable) → Has (StructItem tag fs) xs → ⊥) → is_struct tag xs ≡ false
no_struct tag [] none = refl
no_struct tag (StructItem t fs ∷ xs) none =
    or_both_fail (bytes_eq t tag) _ (texts_differ t tag (λ (e : t ≡ tag). none fs (subst (λ u. Has (StructItem u fs) (StructItem t fs ∷ xs)) e (OnTop _ xs)))) (no_struct tag xs (λ gs h. none gs (Below _ _ xs h)))
no_struct tag (GlobalItem x t s ∷ xs) none = no_struct tag xs (λ gs h. none gs (Below _ _ xs h))
no_struct tag (PrototypeItem m f r ps ∷ xs) none = no_struct tag xs (λ gs h. none gs (Below _ _ xs h))
no_struct tag (FunctionItem f ∷ xs) none = no_struct tag xs (λ gs h. none gs (Below _ _ xs h))

-- where a row has none, none of its items is one
pub struct_none : (tag : Text) (xs : Program) → is_struct tag xs ≡ false → (fs : List Variable) → Has (StructItem tag fs) xs → bytes_eq tag tag ≡ true → ⊥
struct_none tag [] e fs h k = elim h [ ]
struct_none tag (StructItem _ _ ∷ xs) e fs (OnTop _ _) k = absurd (let z : true ≡ false = sym k ∙ (or_neither (bytes_eq tag tag) (is_struct tag xs) e).0 in cc)
struct_none tag (StructItem t gs ∷ xs) e fs (Below _ _ _ h) k = struct_none tag xs (or_neither (bytes_eq t tag) (is_struct tag xs) e).1 fs h k
struct_none tag (GlobalItem x t s ∷ xs) e fs (Below _ _ _ h) k = struct_none tag xs e fs h k
struct_none tag (PrototypeItem m f r ps ∷ xs) e fs (Below _ _ _ h) k = struct_none tag xs e fs h k
struct_none tag (FunctionItem f ∷ xs) e fs (Below _ _ _ h) k = struct_none tag xs e fs h k

-- whether an item declares a name of a variable or a function
abbrev pub Declares : Text → Item → Type 0
Declares x (StructItem tag fs) = ⊥
Declares x (GlobalItem g t s) = bytes_eq g x ≡ true
Declares x (PrototypeItem m f r ps) = bytes_eq f x ≡ true
Declares x (FunctionItem f) = bytes_eq f.called x ≡ true

pub no_item : (x : Text) (xs : Program) → ((i : Item) → Has i xs → Declares x i → ⊥) → is_item x xs ≡ false
no_item x [] none = refl
no_item x (StructItem t fs ∷ xs) none = no_item x xs (λ i h. none i (Below _ _ xs h))
no_item x (GlobalItem g t s ∷ xs) none = or_both_fail (bytes_eq g x) _ (false_unless_true (bytes_eq g x) (none _ (OnTop _ xs))) (no_item x xs (λ i h. none i (Below _ _ xs h)))
no_item x (PrototypeItem m f r ps ∷ xs) none = or_both_fail (bytes_eq f x) _ (false_unless_true (bytes_eq f x) (none _ (OnTop _ xs))) (no_item x xs (λ i h. none i (Below _ _ xs h)))
no_item x (FunctionItem f ∷ xs) none = or_both_fail (bytes_eq f.called x) _ (false_unless_true (bytes_eq f.called x) (none _ (OnTop _ xs))) (no_item x xs (λ i h. none i (Below _ _ xs h)))

pub item_none : (x : Text) (xs : Program) → is_item x xs ≡ false → (i : Item) → Has i xs → Declares x i → ⊥
item_none x [] e i h d = elim h [ ]
item_none x (StructItem t fs ∷ xs) e _ (OnTop _ _) d = d
item_none x (StructItem t fs ∷ xs) e i (Below _ _ _ h) d = item_none x xs e i h d
item_none x (GlobalItem g t s ∷ xs) e _ (OnTop _ _) d = never_both (bytes_eq g x) d (or_neither (bytes_eq g x) (is_item x xs) e).0
item_none x (GlobalItem g t s ∷ xs) e i (Below _ _ _ h) d = item_none x xs (or_neither (bytes_eq g x) (is_item x xs) e).1 i h d
item_none x (PrototypeItem m f r ps ∷ xs) e _ (OnTop _ _) d = never_both (bytes_eq f x) d (or_neither (bytes_eq f x) (is_item x xs) e).0
item_none x (PrototypeItem m f r ps ∷ xs) e i (Below _ _ _ h) d = item_none x xs (or_neither (bytes_eq f x) (is_item x xs) e).1 i h d
item_none x (FunctionItem f ∷ xs) e _ (OnTop _ _) d = never_both (bytes_eq f.called x) d (or_neither (bytes_eq f.called x) (is_item x xs) e).0
item_none x (FunctionItem f ∷ xs) e i (Below _ _ _ h) d = item_none x xs (or_neither (bytes_eq f.called x) (is_item x xs) e).1 i h d

-- ---- declarations that may stand beside others

-- a function may be declared so beside one declaration
abbrev pub Suits : Text → Signature → (declared : Text) → Mode → Bool → Ty → List Parameter → Type 0
Suits x new f mode is_defined r ps = (bytes_eq f x ≡ false) ⊎ ((clashes new mode is_defined ≡ false) × (agrees new mode r (map parameter_type ps) ≡ true))

-- and beside an item
abbrev pub Beside : Text → Signature → Item → Type 0
Beside x new (StructItem tag fs) = Unit {0}
Beside x new (GlobalItem g t s) = bytes_eq g x ≡ false
Beside x new (PrototypeItem m f r ps) = Suits x new f m false r ps
Beside x new (FunctionItem f) = Suits x new f.called f.mode true f.result f.parameters

-- the two tests of one declaration
one_clash : (b c : Bool) (a : Bool) → (b ≡ false) ⊎ ((c ≡ false) × (a ≡ true)) → ((b && c) ≡ false) × ((b && (not c && not a)) ≡ false)
one_clash true c a (inl e) = absurd (cc)
one_clash false c a (inl e) = (refl, refl)
one_clash true true a (inr e) = absurd (let z = e.0 in cc)
one_clash true false false (inr e) = absurd (let z = e.1 in cc)
one_clash true false true (inr e) = (refl, refl)
one_clash false c a (inr e) = (refl, refl)

clash_one : (b c a : Bool) → (b && c) ≡ false → (b && (not c && not a)) ≡ false → (b ≡ false) ⊎ ((c ≡ false) × (a ≡ true))
clash_one false c a e f = inl refl
clash_one true true a e f = absurd (cc)
clash_one true false true e f = inr (refl, refl)
clash_one true false false e f = absurd (cc)

-- beside all of a row: it clashes and disagrees with none
pub beside_all : (x : Text) (new : Signature) (xs : Program) → ((i : Item) → Has i xs → Beside x new i) → (is_clash x new xs ≡ false) × (is_disagreeing x new xs ≡ false)
beside_all x new [] h = (refl, refl)
beside_all x new (StructItem t fs ∷ xs) h = beside_all x new xs (λ i k. h i (Below _ _ xs k))
beside_all x new (GlobalItem g t s ∷ xs) h = let rest = beside_all x new xs (λ i k. h i (Below _ _ xs k)) in (or_both_fail (bytes_eq g x) _ (h _ (OnTop _ xs)) rest.0, rest.1)
beside_all x new (PrototypeItem m f r ps ∷ xs) h =
    let rest = beside_all x new xs (λ i k. h i (Below _ _ xs k)) in
    let one = one_clash (bytes_eq f x) (clashes new m false) (agrees new m r (map parameter_type ps)) (h _ (OnTop _ xs)) in
    (or_both_fail (bytes_eq f x && clashes new m false) _ one.0 rest.0, or_both_fail (bytes_eq f x && disagrees new m false r (map parameter_type ps)) _ one.1 rest.1)
beside_all x new (FunctionItem f ∷ xs) h =
    let rest = beside_all x new xs (λ i k. h i (Below _ _ xs k)) in
    let one = one_clash (bytes_eq f.called x) (clashes new f.mode true) (agrees new f.mode f.result (map parameter_type f.parameters)) (h _ (OnTop _ xs)) in
    (or_both_fail (bytes_eq f.called x && clashes new f.mode true) _ one.0 rest.0, or_both_fail (bytes_eq f.called x && disagrees new f.mode true f.result (map parameter_type f.parameters)) _ one.1 rest.1)

-- where it clashes and disagrees with none, it may stand beside each
pub beside_each : (x : Text) (new : Signature) (xs : Program) → is_clash x new xs ≡ false → is_disagreeing x new xs ≡ false → (i : Item) → Has i xs → Beside x new i
beside_each x new [] c d i h = elim h [ ]
beside_each x new (StructItem t fs ∷ xs) c d _ (OnTop _ _) = tt
beside_each x new (StructItem t fs ∷ xs) c d i (Below _ _ _ h) = beside_each x new xs c d i h
beside_each x new (GlobalItem g t s ∷ xs) c d _ (OnTop _ _) = (or_neither (bytes_eq g x) (is_clash x new xs) c).0
beside_each x new (GlobalItem g t s ∷ xs) c d i (Below _ _ _ h) = beside_each x new xs (or_neither (bytes_eq g x) (is_clash x new xs) c).1 d i h
beside_each x new (PrototypeItem m f r ps ∷ xs) c d _ (OnTop _ _) =
    clash_one (bytes_eq f x) (clashes new m false) (agrees new m r (map parameter_type ps)) (or_neither (bytes_eq f x && clashes new m false) (is_clash x new xs) c).0
    (or_neither (bytes_eq f x && disagrees new m false r (map parameter_type ps)) (is_disagreeing x new xs) d).0
beside_each x new (PrototypeItem m f r ps ∷ xs) c d i (Below _ _ _ h) =
    beside_each x new xs (or_neither (bytes_eq f x && clashes new m false) (is_clash x new xs) c).1 (or_neither (bytes_eq f x && disagrees new m false r (map parameter_type ps)) (is_disagreeing x new xs) d).1 i h
beside_each x new (FunctionItem f ∷ xs) c d _ (OnTop _ _) =
    clash_one (bytes_eq f.called x) (clashes new f.mode true) (agrees new f.mode f.result (map parameter_type f.parameters)) (or_neither (bytes_eq f.called x && clashes new f.mode true) (is_clash x new xs) c).0
    (or_neither (bytes_eq f.called x && disagrees new f.mode true f.result (map parameter_type f.parameters)) (is_disagreeing x new xs) d).0
beside_each x new (FunctionItem f ∷ xs) c d i (Below _ _ _ h) =
    beside_each x new xs (or_neither (bytes_eq f.called x && clashes new f.mode true) (is_clash x new xs) c).1
    (or_neither (bytes_eq f.called x && disagrees new f.mode true f.result (map parameter_type f.parameters)) (is_disagreeing x new xs) d).1 i h
