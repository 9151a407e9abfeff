-- What is known of items that break no rule: what names stand for, and which functions are defined.
use Rattle.std.proofs.Common.{◌≡◌, ◌⊎◌, inl, inr, ◌&&◌, ◌||◌, not, ℕ, suc, Bool, true, false, cond, List, [], ◌∷◌, ◌++◌, map, reverse, Option, Some, None, bytes_eq, refl, sym, ◌∙◌, ap, subst}
use Rattle.std.proofs.lemmas.List.{reverse-append}
use Rattle.cpc_base.specs.Bytes.{Text}
use Rattle.cpc_base.proofs.Truth.{by_false_true, and_both, or_neither, and_fails_second, and_not_fails, or_by_second}
use Rattle.cpc_tree.specs.declared.program.Mode.{Mode}
use Rattle.cpc_tree.specs.Syntax.{Ty, Function, Item, StructItem, GlobalItem, PrototypeItem, FunctionItem, Program}
use Rattle.cpc_tree.specs.Typing.{Meant, ALocal, AGlobal, AFunction, NotMeant, item_named, function_named, parameter_type, same_type}
use Rattle.cpc_check_rules.specs.ItemRules.{same_mode, same_list, Signature, agrees, clashes, is_clash, disagrees, is_disagreeing, is_item, is_function}
use Rattle.cpc_check_rules.proofs.Sameness.{type_is, list_is, mode_is}
use Rattle.cpc_check_laws.proofs.Sound.Answers.{no_some}

-- ---- one more item

-- a name that stands for something
abbrev IsMeant : Meant → Type 0
IsMeant NotMeant = ⊥
IsMeant _ = Unit {0}

pub last_first : (before : Program) (i : Item) → reverse (before ++ i ∷ []) ≡ i ∷ reverse before
last_first before i = reverse-append before (i ∷ [])

more_either : (b : Bool) (a c e m : Meant) → IsMeant m → (c ≡ m → e ≡ m) → cond b a c ≡ m → cond b a e ≡ m
more_either true a c e m i f h = h
more_either false a c e m i f h = f h

-- the first item that declares a name stays the first
pub named_more : (n : ℕ) (before items : Program) (x : Text) (m : Meant) → IsMeant m → item_named n before x ≡ m → item_named n (before ++ items) x ≡ m
named_more n [] items x m i h = absurd (subst IsMeant (sym h) i)
named_more n (StructItem tag fs ∷ before) items x m i h = named_more n before items x m i h
named_more n (GlobalItem g t start ∷ before) items x m i h = more_either (bytes_eq g x) _ _ _ m i (named_more (suc n) before items x m i) h
named_more n (PrototypeItem mode f r ps ∷ before) items x m i h = more_either (bytes_eq f x) _ _ _ m i (named_more n before items x m i) h
named_more n (FunctionItem f ∷ before) items x m i h = more_either (bytes_eq f.called x) _ _ _ m i (named_more n before items x m i) h

-- where nothing before declares a name, what follows does
abbrev Rest : ℕ → Program → Program → Text → Type 0
Rest n before items x = (k : ℕ) × (item_named n (before ++ items) x ≡ item_named k items x)

rest_either : (b : Bool) (a c e : Meant) (items : Program) (x : Text) → IsMeant a → (c ≡ NotMeant → (k : ℕ) × (e ≡ item_named k items x)) → cond b a c ≡ NotMeant → (k : ℕ) × (cond b a e ≡ item_named k items x)
rest_either true a c e items x i f h = absurd (subst IsMeant h i)
rest_either false a c e items x i f h = f h

pub named_rest : (n : ℕ) (before items : Program) (x : Text) → item_named n before x ≡ NotMeant → Rest n before items x
named_rest n [] items x h = (n, refl)
named_rest n (StructItem tag fs ∷ before) items x h = named_rest n before items x h
named_rest n (GlobalItem g t start ∷ before) items x h = rest_either (bytes_eq g x) _ _ _ items x tt (named_rest (suc n) before items x) h
named_rest n (PrototypeItem mode f r ps ∷ before) items x h = rest_either (bytes_eq f x) _ _ _ items x tt (named_rest n before items x) h
named_rest n (FunctionItem f ∷ before) items x h = rest_either (bytes_eq f.called x) _ _ _ items x tt (named_rest n before items x) h

-- an item that does not declare a name changes nothing
pub named_other : (before : Program) (i : Item) (x : Text) → ((k : ℕ) → item_named k (i ∷ []) x ≡ NotMeant) → item_named 0 (before ++ i ∷ []) x ≡ item_named 0 before x
named_other before i x none = go (item_named 0 before x) refl
  where
    go : (m : Meant) → item_named 0 before x ≡ m → item_named 0 (before ++ i ∷ []) x ≡ m
    go NotMeant e = let r = named_rest 0 before (i ∷ []) x e in r.1 ∙ none r.0
    go (ALocal k t) e = named_more 0 before (i ∷ []) x (ALocal k t) tt e
    go (AGlobal n t) e = named_more 0 before (i ∷ []) x (AGlobal n t) tt e
    go (AFunction mode r ps) e = named_more 0 before (i ∷ []) x (AFunction mode r ps) tt e

-- ---- declarations of one name

abbrev pub signed : Signature → Meant
signed s = AFunction s.mode s.result s.parameters

agrees_is : (new : Signature) (mode : Mode) (r : Ty) (ps : List Ty) → agrees new mode r ps ≡ true → AFunction mode r ps ≡ signed new
agrees_is new mode r ps e =
    let h = and_both (same_mode new.mode mode) _ e in
    let k = and_both (same_type new.result r) (same_list new.parameters ps) h.1 in
    sym (ap (λ m. AFunction m new.result new.parameters) (mode_is new.mode mode h.0) ∙ ap (λ t. AFunction mode t new.parameters) (type_is new.result r k.0) ∙ ap (λ us. AFunction mode r us) (list_is new.parameters ps k.1))

-- neither a clash nor a disagreement
pub settled : (new : Signature) (mode : Mode) (is_defined : Bool) (r : Ty) (ps : List Ty) → clashes new mode is_defined ≡ false → disagrees new mode is_defined r ps ≡ false → AFunction mode r ps ≡ signed new
settled new mode is_defined r ps c e = agrees_is new mode r ps (and_not_fails (not (clashes new mode is_defined)) (agrees new mode r ps) e (ap not c))

-- what was declared of a name before is what is declared now
abbrev pub Agreed : Signature → Meant → Type 0
Agreed new m = (m ≡ NotMeant) ⊎ (m ≡ signed new)

agreed_either : (b : Bool) (a c : Meant) (new : Signature) → (b ≡ true → Agreed new a) → (b ≡ false → Agreed new c) → Agreed new (cond b a c)
agreed_either true a c new f g = f refl
agreed_either false a c new f g = g refl

pub agreed : (x : Text) (new : Signature) (n : ℕ) (before : Program) → is_clash x new before ≡ false → is_disagreeing x new before ≡ false → Agreed new (item_named n before x)
agreed x new n [] c e = inl refl
agreed x new n (StructItem tag fs ∷ before) c e = agreed x new n before c e
agreed x new n (GlobalItem g t start ∷ before) c e =
    let h = or_neither (bytes_eq g x) (is_clash x new before) c in
    agreed_either (bytes_eq g x) (AGlobal n t) (item_named (suc n) before x) new (λ k. by_false_true (sym (sym k ∙ h.0))) (λ k. agreed x new (suc n) before h.1 e)
agreed x new n (PrototypeItem mode f r ps ∷ before) c e =
    let h = or_neither (bytes_eq f x && clashes new mode false) (is_clash x new before) c in
    let k = or_neither (bytes_eq f x && disagrees new mode false r (map parameter_type ps)) (is_disagreeing x new before) e in
    agreed_either (bytes_eq f x) (AFunction mode r (map parameter_type ps)) (item_named n before x) new
    (λ i. inr (settled new mode false r (map parameter_type ps) (and_fails_second (bytes_eq f x) _ h.0 i) (and_fails_second (bytes_eq f x) _ k.0 i))) (λ i. agreed x new n before h.1 k.1)
agreed x new n (FunctionItem f ∷ before) c e =
    let h = or_neither (bytes_eq f.called x && clashes new f.mode true) (is_clash x new before) c in
    let k = or_neither (bytes_eq f.called x && disagrees new f.mode true f.result (map parameter_type f.parameters)) (is_disagreeing x new before) e in
    agreed_either (bytes_eq f.called x) (AFunction f.mode f.result (map parameter_type f.parameters)) (item_named n before x) new
    (λ i. inr (settled new f.mode true f.result (map parameter_type f.parameters) (and_fails_second (bytes_eq f.called x) _ h.0 i) (and_fails_second (bytes_eq f.called x) _ k.0 i))) (λ i. agreed x new n before h.1 k.1)

-- a name that no item has
pub no_item : (x : Text) (n : ℕ) (before : Program) → is_item x before ≡ false → item_named n before x ≡ NotMeant
no_item x n [] e = refl
no_item x n (StructItem tag fs ∷ before) e = no_item x n before e
no_item x n (GlobalItem g t start ∷ before) e = let h = or_neither (bytes_eq g x) (is_item x before) e in ap (λ b. cond b (AGlobal n t) (item_named (suc n) before x)) h.0 ∙ no_item x (suc n) before h.1
no_item x n (PrototypeItem mode f r ps ∷ before) e =
    let h = or_neither (bytes_eq f x) (is_item x before) e in ap (λ b. cond b (AFunction mode r (map parameter_type ps)) (item_named n before x)) h.0 ∙ no_item x n before h.1
no_item x n (FunctionItem f ∷ before) e =
    let h = or_neither (bytes_eq f.called x) (is_item x before) e in ap (λ b. cond b (AFunction f.mode f.result (map parameter_type f.parameters)) (item_named n before x)) h.0 ∙ no_item x n before h.1

-- ---- functions that are defined

defined_either : (b : Bool) (f : Function) (o u : Option Function) (g : Function) → (o ≡ Some g → u ≡ Some g) → cond b (Some f) o ≡ Some g → cond b (Some f) u ≡ Some g
defined_either true f o u g k h = h
defined_either false f o u g k h = k h

pub defined_more : (before items : Program) (x : Text) (g : Function) → function_named before x ≡ Some g → function_named (before ++ items) x ≡ Some g
defined_more [] items x g h = no_some g h
defined_more (StructItem tag fs ∷ before) items x g h = defined_more before items x g h
defined_more (GlobalItem y t start ∷ before) items x g h = defined_more before items x g h
defined_more (PrototypeItem mode f r ps ∷ before) items x g h = defined_more before items x g h
defined_more (FunctionItem f ∷ before) items x g h = defined_either (bytes_eq f.called x) f _ _ g (defined_more before items x g) h

undefined_either : (b : Bool) (f : Function) (o u v : Option Function) → (o ≡ None → u ≡ v) → cond b (Some f) o ≡ None → cond b (Some f) u ≡ v
undefined_either true f o u v k h = absurd (cc)
undefined_either false f o u v k h = k h

pub defined_rest : (before items : Program) (x : Text) → function_named before x ≡ None → function_named (before ++ items) x ≡ function_named items x
defined_rest [] items x h = refl
defined_rest (StructItem tag fs ∷ before) items x h = defined_rest before items x h
defined_rest (GlobalItem y t start ∷ before) items x h = defined_rest before items x h
defined_rest (PrototypeItem mode f r ps ∷ before) items x h = defined_rest before items x h
defined_rest (FunctionItem f ∷ before) items x h = undefined_either (bytes_eq f.called x) f _ _ _ (defined_rest before items x) h

found_either : (b : Bool) (f : Function) (o : Option Function) (c : Bool) → (c ≡ true → (g : Function) × (o ≡ Some g)) → (b || c) ≡ true → (g : Function) × (cond b (Some f) o ≡ Some g)
found_either true f o c k h = (f, refl)
found_either false f o c k h = k h

pub is_defined : (x : Text) (p : Program) → is_function x p ≡ true → (g : Function) × (function_named p x ≡ Some g)
is_defined x [] h = by_false_true h
is_defined x (StructItem tag fs ∷ p) h = is_defined x p h
is_defined x (GlobalItem y t start ∷ p) h = is_defined x p h
is_defined x (PrototypeItem mode f r ps ∷ p) h = is_defined x p h
is_defined x (FunctionItem f ∷ p) h = found_either (bytes_eq f.called x) f (function_named p x) (is_function x p) (is_defined x p) h

pub function_there : (before rest : Program) (f : Function) (x : Text) → bytes_eq f.called x ≡ true → is_function x (before ++ FunctionItem f ∷ rest) ≡ true
function_there [] rest f x e = ap (λ b. b || is_function x rest) e
function_there (StructItem tag fs ∷ before) rest f x e = function_there before rest f x e
function_there (GlobalItem y t start ∷ before) rest f x e = function_there before rest f x e
function_there (PrototypeItem mode g r ps ∷ before) rest f x e = function_there before rest f x e
function_there (FunctionItem g ∷ before) rest f x e = or_by_second (bytes_eq g.called x) (is_function x (before ++ FunctionItem f ∷ rest)) (function_there before rest f x e)
