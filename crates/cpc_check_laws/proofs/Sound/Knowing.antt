-- What is known after each item of a program that breaks no rule.
use Rattle.std.proofs.Common.{◌≡◌, inl, inr, nat_le, ℕ, Bool, true, false, cond, List, [], ◌∷◌, ◌++◌, reverse, length, Option, Some, None, bytes_eq, refl, sym, ◌∙◌, ap, subst}
use Rattle.cpc_base.specs.Bytes.{Text}
use Rattle.cpc_base.proofs.Truth.{by_false_true, and_both}
use Rattle.cpc_base.proofs.Lists.{some_is}
use Rattle.cpc_num.specs.declared.kinds.Kind.TheVariants.{Char, UChar, Int, UInt, Long, ULong}
use Rattle.cpc_tree.specs.declared.program.Mode.{Mode}
use Rattle.cpc_tree.specs.declared.program.Mode.TheVariants.{Extern}
use Rattle.cpc_tree.specs.Syntax.{Ty, TyVoid, TyInt, TyCondvar, TyPointer, TyCode, TyStruct, TyArray, Exprs, NoExpr, AndExpr, Expr, Variable, Function, Item, StructItem, GlobalItem, Program}
use Rattle.cpc_tree.specs.Typing.{Scope, Meant, ALocal, AGlobal, AFunction, NotMeant, item_named, function_named, parameter_types}
use Rattle.cpc_tree.specs.Primitives.{Primitive, primitive_in, primitives}
use Rattle.cpc_check_rules.specs.Scopes.{in_items}
use Rattle.cpc_check_rules.specs.FunctionRules.{is_kept}
use Rattle.cpc_check_rules.specs.ItemRules.{Signature, is_clash, is_disagreeing, is_item, is_function, is_long, all_long, is_host_like}
use Rattle.cpc_meaning.proofs.Functions.{same_text, text_same}
use Rattle.cpc_check_laws.specs.Sound.Typed.{Gets, AllGet, EachGets, is_own}
use Rattle.cpc_check_laws.proofs.Sound.Answers.{no_some}
use Rattle.cpc_check_laws.proofs.Sound.Agendas.{Each}
use Rattle.cpc_check_laws.proofs.Sound.Agreement.{Facts}
use Rattle.cpc_check_laws.proofs.Sound.Items.{last_first, named_more, named_rest, named_other, signed, Agreed, agreed, no_item, defined_more, defined_rest, is_defined}

-- the last item that declares a name agrees with the first
abbrev pub Same : Meant → Meant → Type 0
Same (ALocal k t) m = ⊥
Same (AGlobal j t) m = (n : ℕ) × (m ≡ AGlobal n t)
Same (AFunction mode r ps) m = m ≡ AFunction mode r ps
Same NotMeant m = m ≡ NotMeant

-- what is known of the items so far, in a program of all these
pub record Known (program before : Program) : Type 0 where
  pub same : (x : Text) → Same (in_items (reverse before) x) (item_named 0 before x)
  pub kept : (x : Text) → is_kept x ≡ true → item_named 0 before x ≡ NotMeant
  pub extern : (x : Text) (r : Ty) (ps : List Ty) → item_named 0 before x ≡ AFunction Extern r ps → is_host_like r ps ≡ true
  pub defined : (x : Text) (g : Function) → function_named before x ≡ Some g → item_named 0 before x ≡ AFunction g.mode g.result (parameter_types g)
  pub promised : (x : Text) (mode : Mode) (r : Ty) (ps : List Ty) → item_named 0 before x ≡ AFunction mode r ps → is_own mode ≡ true → is_function x program ≡ true

pub nothing_known : (program : Program) → Known program []
nothing_known program = record {
  same = λ x. refl;
  kept = λ x e. refl;
  extern = λ x r ps e. absurd (cc);
  defined = λ x g e. no_some g e;
  promised = λ x mode r ps e o. absurd (cc);
}

bool_cases : {A : Type 0} (b : Bool) → (b ≡ true → A) → (b ≡ false → A) → A
bool_cases true f g = f refl
bool_cases false f g = g refl

same_signature : (m n : Mode) (r t : Ty) (ps us : List Ty) → AFunction m r ps ≡ AFunction n t us → (m ≡ n) × (r ≡ t) × (ps ≡ us)
same_signature m n r t ps us e = (cc, cc, cc)

global_no_function : (n : ℕ) (t : Ty) (mode : Mode) (r : Ty) (ps : List Ty) → AGlobal n t ≡ AFunction mode r ps → ⊥
global_no_function n t mode r ps e = absurd (cc)

-- an item that defines no function of a name
defined_other : (before : Program) (i : Item) (x : Text) → function_named (i ∷ []) x ≡ None → function_named (before ++ i ∷ []) x ≡ function_named before x
defined_other before i x none = go (function_named before x) refl
  where
    go : (o : Option Function) → function_named before x ≡ o → function_named (before ++ i ∷ []) x ≡ o
    go None e = defined_rest before (i ∷ []) x e ∙ none
    go (Some g) e = defined_more before (i ∷ []) x g e

-- ---- an item that declares nothing that has a value

module _ (program before : Program) (known : Known program before) where
  pub known_struct : (tag : Text) (fs : List Variable) → Known program (before ++ StructItem tag fs ∷ [])
  known_struct tag fs = record {
    same = λ x. subst (λ q. Same (in_items q x) (item_named 0 (before ++ i ∷ []) x)) (sym (last_first before i)) (subst (Same (in_items (reverse before) x)) (sym (still x)) (known.same x));
    kept = λ x e. still x ∙ known.kept x e;
    extern = λ x r ps e. known.extern x r ps (sym (still x) ∙ e);
    defined = λ x g e. still x ∙ known.defined x g (sym (function_named_still x) ∙ e);
    promised = λ x mode r ps e o. known.promised x mode r ps (sym (still x) ∙ e) o;
  }
    where
      i : Item
      i = StructItem tag fs

      still : (x : Text) → item_named 0 (before ++ StructItem tag fs ∷ []) x ≡ item_named 0 before x
      still x = named_other before (StructItem tag fs) x (λ k. refl)

      function_named_still : (x : Text) → function_named (before ++ StructItem tag fs ∷ []) x ≡ function_named before x
      function_named_still x = defined_other before (StructItem tag fs) x refl

  -- ---- a global

  module _ (y : Text) (t : Ty) (start : Option Expr) (fresh : is_item y before ≡ false) (not_kept : is_kept y ≡ false) where
    abbrev g_item : Item
    g_item = GlobalItem y t start

    g_other : (x : Text) → bytes_eq y x ≡ false → item_named 0 (before ++ g_item ∷ []) x ≡ item_named 0 before x
    g_other x e = named_other before g_item x (λ k. ap (λ b. cond b (AGlobal k t) NotMeant) e)

    g_matched : (x : Text) → bytes_eq y x ≡ true → (n : ℕ) × (item_named 0 (before ++ g_item ∷ []) x ≡ AGlobal n t)
    g_matched x e =
        let r = named_rest 0 before (g_item ∷ []) x (subst (λ z. item_named 0 before z ≡ NotMeant) (same_text y x e) (no_item y 0 before fresh)) in
        (r.0, r.1 ∙ ap (λ b. cond b (AGlobal r.0 t) NotMeant) e)

    pub known_global : Known program (before ++ g_item ∷ [])
    known_global = record { same = same; kept = kept; extern = extern; defined = defined; promised = promised }
      where
        same : (x : Text) → Same (in_items (reverse (before ++ g_item ∷ [])) x) (item_named 0 (before ++ g_item ∷ []) x)
        same x =
            subst (λ q. Same (in_items q x) (item_named 0 (before ++ g_item ∷ []) x)) (sym (last_first before g_item))
            (bool_cases (bytes_eq y x)
            (λ e. subst (λ b. Same (cond b (AGlobal 0 t) (in_items (reverse before) x)) (item_named 0 (before ++ g_item ∷ []) x)) (sym e) (g_matched x e))
            (λ e. subst (λ b. Same (cond b (AGlobal 0 t) (in_items (reverse before) x)) (item_named 0 (before ++ g_item ∷ []) x)) (sym e) (subst (Same (in_items (reverse before) x)) (sym (g_other x e)) (known.same x))))

        kept : (x : Text) → is_kept x ≡ true → item_named 0 (before ++ g_item ∷ []) x ≡ NotMeant
        kept x k = bool_cases (bytes_eq y x) (λ e. by_false_true (sym (subst (λ z. is_kept z ≡ false) (same_text y x e) not_kept) ∙ k)) (λ e. g_other x e ∙ known.kept x k)

        extern : (x : Text) (r : Ty) (ps : List Ty) → item_named 0 (before ++ g_item ∷ []) x ≡ AFunction Extern r ps → is_host_like r ps ≡ true
        extern x r ps h = bool_cases (bytes_eq y x) (λ e. let m = g_matched x e in absurd (global_no_function m.0 t Extern r ps (sym m.1 ∙ h))) (λ e. known.extern x r ps (sym (g_other x e) ∙ h))

        defined : (x : Text) (g : Function) → function_named (before ++ g_item ∷ []) x ≡ Some g → item_named 0 (before ++ g_item ∷ []) x ≡ AFunction g.mode g.result (parameter_types g)
        defined x g h = named_more 0 before (g_item ∷ []) x (AFunction g.mode g.result (parameter_types g)) tt (known.defined x g (sym (defined_other before g_item x refl) ∙ h))

        promised : (x : Text) (mode : Mode) (r : Ty) (ps : List Ty) → item_named 0 (before ++ g_item ∷ []) x ≡ AFunction mode r ps → is_own mode ≡ true → is_function x program ≡ true
        promised x mode r ps h o = bool_cases (bytes_eq y x) (λ e. let m = g_matched x e in absurd (global_no_function m.0 t mode r ps (sym m.1 ∙ h))) (λ e. known.promised x mode r ps (sym (g_other x e) ∙ h) o)

  -- ---- a function, declared or defined

  module _ (i : Item) (y : Text) (new : Signature)
      (last_is : (q : Program) (x : Text) → in_items (i ∷ q) x ≡ cond (bytes_eq y x) (signed new) (in_items q x))
      (first_is : (k : ℕ) (x : Text) → item_named k (i ∷ []) x ≡ cond (bytes_eq y x) (signed new) NotMeant)
      (no_clash : is_clash y new before ≡ false) (no_disagreement : is_disagreeing y new before ≡ false) (not_kept : is_kept y ≡ false)
      (host : new.mode ≡ Extern → is_host_like new.result new.parameters ≡ true) (promise : is_own new.mode ≡ true → is_function y program ≡ true)
      (is_new : (x : Text) (g : Function) → function_named (i ∷ []) x ≡ Some g → (bytes_eq y x ≡ true) × (signed new ≡ AFunction g.mode g.result (parameter_types g))) where
    f_other : (x : Text) → bytes_eq y x ≡ false → item_named 0 (before ++ i ∷ []) x ≡ item_named 0 before x
    f_other x e = named_other before i x (λ k. first_is k x ∙ ap (λ b. cond b (signed new) NotMeant) e)

    f_matched : (x : Text) → bytes_eq y x ≡ true → item_named 0 (before ++ i ∷ []) x ≡ signed new
    f_matched x e = subst (λ z. item_named 0 (before ++ i ∷ []) z ≡ signed new) (same_text y x e) (go (agreed y new 0 before no_clash no_disagreement))
      where
        go : Agreed new (item_named 0 before y) → item_named 0 (before ++ i ∷ []) y ≡ signed new
        go (inl h) = let r = named_rest 0 before (i ∷ []) y h in r.1 ∙ first_is r.0 y ∙ ap (λ b. cond b (signed new) NotMeant) (text_same y)
        go (inr h) = named_more 0 before (i ∷ []) y (signed new) tt h

    pub known_function : Known program (before ++ i ∷ [])
    known_function = record { same = same; kept = kept; extern = extern; defined = defined; promised = promised }
      where
        same : (x : Text) → Same (in_items (reverse (before ++ i ∷ [])) x) (item_named 0 (before ++ i ∷ []) x)
        same x =
            subst (λ q. Same (in_items q x) (item_named 0 (before ++ i ∷ []) x)) (sym (last_first before i))
            (subst (λ m. Same m (item_named 0 (before ++ i ∷ []) x)) (sym (last_is (reverse before) x))
            (bool_cases (bytes_eq y x)
            (λ e. subst (λ b. Same (cond b (signed new) (in_items (reverse before) x)) (item_named 0 (before ++ i ∷ []) x)) (sym e) (f_matched x e))
            (λ e. subst (λ b. Same (cond b (signed new) (in_items (reverse before) x)) (item_named 0 (before ++ i ∷ []) x)) (sym e) (subst (Same (in_items (reverse before) x)) (sym (f_other x e)) (known.same x)))))

        kept : (x : Text) → is_kept x ≡ true → item_named 0 (before ++ i ∷ []) x ≡ NotMeant
        kept x k = bool_cases (bytes_eq y x) (λ e. by_false_true (sym (subst (λ z. is_kept z ≡ false) (same_text y x e) not_kept) ∙ k)) (λ e. f_other x e ∙ known.kept x k)

        extern : (x : Text) (r : Ty) (ps : List Ty) → item_named 0 (before ++ i ∷ []) x ≡ AFunction Extern r ps → is_host_like r ps ≡ true
        extern x r ps h = bool_cases (bytes_eq y x)
            (λ e. let k = same_signature new.mode Extern new.result r new.parameters ps (sym (f_matched x e) ∙ h) in
            subst (λ r. is_host_like r ps ≡ true) k.1 (subst (λ ps. is_host_like new.result ps ≡ true) k.2 (host k.0)))
            (λ e. known.extern x r ps (sym (f_other x e) ∙ h))

        defined : (x : Text) (g : Function) → function_named (before ++ i ∷ []) x ≡ Some g → item_named 0 (before ++ i ∷ []) x ≡ AFunction g.mode g.result (parameter_types g)
        defined x g h = go (function_named before x) refl
          where
            go : (o : Option Function) → function_named before x ≡ o → item_named 0 (before ++ i ∷ []) x ≡ AFunction g.mode g.result (parameter_types g)
            go None e = let n = is_new x g (sym (defined_rest before (i ∷ []) x e) ∙ h) in f_matched x n.0 ∙ n.1
            go (Some f) e =
                let k : f ≡ g = some_is f g (sym (defined_more before (i ∷ []) x f e) ∙ h) in
                named_more 0 before (i ∷ []) x (AFunction g.mode g.result (parameter_types g)) tt (known.defined x g (e ∙ ap (λ f. Some f) k))

        promised : (x : Text) (mode : Mode) (r : Ty) (ps : List Ty) → item_named 0 (before ++ i ∷ []) x ≡ AFunction mode r ps → is_own mode ≡ true → is_function x program ≡ true
        promised x mode r ps h o = bool_cases (bytes_eq y x)
            (λ e. let k = same_signature new.mode mode new.result r new.parameters ps (sym (f_matched x e) ∙ h) in
            subst (λ z. is_function z program ≡ true) (same_text y x e) (promise (ap is_own k.0 ∙ o)))
            (λ e. known.promised x mode r ps (sym (f_other x e) ∙ h) o)

-- ---- names of primitives

kept_in : (ps : List (Text × Primitive)) (x : Text) (prim : Primitive) → Each (λ (q : Text × Primitive). is_kept q.0 ≡ true) ps → primitive_in ps x ≡ Some prim → is_kept x ≡ true
kept_in [] x prim h e = no_some prim e
kept_in (q ∷ ps) x prim h e = go (bytes_eq q.0 x) refl e (kept_in ps x prim h.1)
  where
    go : (b : Bool) → bytes_eq q.0 x ≡ b → cond b (Some q.1) (primitive_in ps x) ≡ Some prim → (primitive_in ps x ≡ Some prim → is_kept x ≡ true) → is_kept x ≡ true
    go true i e rest = subst (λ z. is_kept z ≡ true) (same_text q.0 x i) h.0
    go false i e rest = rest e

all_kept : Each (λ (q : Text × Primitive). is_kept q.0 ≡ true) primitives
all_kept = (refl, (refl, (refl, (refl, (refl, (refl, (refl, (refl, (refl, (refl, (refl, (refl, (refl, (refl, (refl, (refl, (refl, (refl, (refl, (refl, (refl, (refl, (refl, (refl, tt))))))))))))))))))))))))

-- ---- what a whole program knows

long_is : (t : Ty) → is_long t ≡ true → t ≡ TyInt Long
long_is (TyInt Long) e = refl
long_is (TyInt Char) e = by_false_true e
long_is (TyInt UChar) e = by_false_true e
long_is (TyInt Int) e = by_false_true e
long_is (TyInt UInt) e = by_false_true e
long_is (TyInt ULong) e = by_false_true e
long_is TyVoid e = by_false_true e
long_is TyCondvar e = by_false_true e
long_is (TyPointer t) e = by_false_true e
long_is (TyCode r ps) e = by_false_true e
long_is (TyStruct tag) e = by_false_true e
long_is (TyArray t n) e = by_false_true e

longs_get : (p : Program) (scope : Scope) (ps : List Ty) (es : Exprs) → all_long ps ≡ true → AllGet p scope ps es → EachGets p scope (TyInt Long) es
longs_get p scope [] NoExpr h g = tt
longs_get p scope (t ∷ ps) (AndExpr e es) h g = let k = and_both (is_long t) (all_long ps) h in (subst (λ t. Gets p scope t e) (long_is t k.0) g.0, longs_get p scope ps es k.1 g.1)
longs_get p scope [] (AndExpr e es) h g = absurd g
longs_get p scope (t ∷ ps) NoExpr h g = absurd g

pub facts_of : (p : Program) → Known p p → Facts p
facts_of p known = record { extern = extern; function = function }
  where
    extern : (x : Text) (r : Ty) (ps : List Ty) → item_named 0 p x ≡ AFunction Extern r ps → (r ≡ TyInt Long) × ((es : Exprs) (scope : Scope) → AllGet p scope ps es → EachGets p scope (TyInt Long) es)
    extern x r ps e =
        let h = and_both (is_long r) _ (known.extern x r ps e) in
        let k = and_both (all_long ps) (nat_le (length ps) 8) h.1 in
        (long_is r h.0, λ es scope g. longs_get p scope ps es k.0 g)

    function : (x : Text) (mode : Mode) (r : Ty) (ps : List Ty) → item_named 0 p x ≡ AFunction mode r ps → is_own mode ≡ true
        → (g : Function) × (function_named p x ≡ Some g) × (g.mode ≡ mode) × (g.result ≡ r) × (parameter_types g ≡ ps)
    function x mode r ps e o =
        let g = is_defined x p (known.promised x mode r ps e o) in
        let k = same_signature g.0.mode mode g.0.result r (parameter_types g.0) ps (sym (known.defined x g.0 g.1) ∙ e) in
        (g.0, g.1, k.0, k.1, k.2)
