-- The names of a typed expression or call mean variables, or items that stay.
use Rattle.std.proofs.Common.{◌≡◌, ◌⊎◌, inl, inr, ℕ, suc, Bool, true, false, cond, List, [], ◌∷◌, Option, Some, None, bytes_eq, refl, sym, ◌∙◌, ap, subst}
use Rattle.cpc_base.specs.Bytes.{Text}
use Rattle.cpc_tree.specs.Primitives.{Primitive, primitives, primitive_in, primitive_named, Taken, AnyInteger, SetOf, FreeOf}
use Rattle.cpc_tree.specs.Syntax.{Ty, TyVoid, TyInt, TyCondvar, TyPointer, TyCode, TyStruct, TyArray, Expr, ENamed, EInteger, ECharacter, EText, EUnary, EBinary, EAnd, EOr, EChoose, ECast, ESizeOf, EIndex, EMember, EArrow, ECall, Exprs, NoExpr, AndExpr, StructItem, GlobalItem, PrototypeItem, FunctionItem, Item, Program}
use Rattle.cpc_tree.specs.Typing.{Scope, Meant, ALocal, AGlobal, AFunction, NotMeant, named, item_named, type_named, Typed, typing, used, tested_type, AValue, APlace, binary_type, choice_type, sum_type, target, is_null, ◌>>=◌}
use Rattle.cpc_tree.specs.declared.program.Mode.TheVariants.{Extern, Native, Cps, Detached}
use Rattle.cpc_tree.specs.declared.program.UnaryOp.TheVariants.{AddressOf}
use Rattle.cpc_tree.proofs.Options.{then_some}
use Rattle.cpc_check_laws.specs.Sound.Typed.{Gets, IsTest, AllGet, EachGets, NamesFunction, GetsTaken, AllGetTaken}
use Rattle.cpc_check_laws.proofs.Sound.Answers.{no_some}
use Rattle.cpc_check_laws.proofs.Sound.Expressions.{sign_some, tested_is}
use Rattle.cpc_check_laws.proofs.Sound.Agendas.{Each}
use Rattle.cpc_meaning.proofs.Functions.{same_text}
use Rattle.cpc_convert_common.specs.Marks.{has_marks}
use Rattle.cpc_convert_common.specs.Members.{Has, OnTop, Below}
use Rattle.cpc_convert_image_laws.specs.InPlace.{is_cps}
use Rattle.cpc_meaning.specs.Names.{AllNames, AllNamesAmong}
use Rattle.cpc_lifted_laws.specs.Accepted.Names.{name_of, HasNames}
use Rattle.cpc_lifted_laws.specs.Accepted.Points.{UsedName, IsVariable, IsItem}

-- ---- names of items

-- one more item
one_more : (x : Text) (i : Item) (items : List Item) (a m : Meant) → (m ≡ NotMeant) ⊎ ((j : Item) × Has j items × (name_of j ≡ x)) → (cond (bytes_eq (name_of i) x) a m ≡ NotMeant) ⊎ ((j : Item) × Has j (i ∷ items) × (name_of j ≡ x))
one_more x i items a m w = go (bytes_eq (name_of i) x) refl w
  where
    go : (b : Bool) → bytes_eq (name_of i) x ≡ b → (m ≡ NotMeant) ⊎ ((j : Item) × Has j items × (name_of j ≡ x)) → (cond b a m ≡ NotMeant) ⊎ ((j : Item) × Has j (i ∷ items) × (name_of j ≡ x))
    go true e w = inr (i, OnTop _ _, same_text (name_of i) x e)
    go false e (inl k) = inl k
    go false e (inr k) = inr (k.0, Below _ _ _ k.1, k.2)

-- what is meant is there
item_meant : (n : ℕ) (items : List Item) (x : Text) → (item_named n items x ≡ NotMeant) ⊎ ((i : Item) × Has i items × (name_of i ≡ x))
item_meant n [] x = inl refl
item_meant n (StructItem tag fs ∷ items) x = go (item_meant n items x)
  where
    go : (item_named n items x ≡ NotMeant) ⊎ ((i : Item) × Has i items × (name_of i ≡ x)) → (item_named n items x ≡ NotMeant) ⊎ ((i : Item) × Has i (StructItem tag fs ∷ items) × (name_of i ≡ x))
    go (inl e) = inl e
    go (inr w) = inr (w.0, Below _ _ _ w.1, w.2)
item_meant n (GlobalItem g t start ∷ items) x = one_more x (GlobalItem g t start) items (AGlobal n t) (item_named (suc n) items x) (item_meant (suc n) items x)
item_meant n (PrototypeItem m f r ps ∷ items) x = one_more x (PrototypeItem m f r ps) items _ (item_named n items x) (item_meant n items x)
item_meant n (FunctionItem f ∷ items) x = one_more x (FunctionItem f) items _ (item_named n items x) (item_meant n items x)

-- ---- names of primitives

unmarked_in : (ps : List (Text × Primitive)) (x : Text) (prim : Primitive) → Each (λ (q : Text × Primitive). has_marks q.0 ≡ false) ps → primitive_in ps x ≡ Some prim → has_marks x ≡ false
unmarked_in [] x prim h e = no_some prim e
unmarked_in (q ∷ ps) x prim h e = go (bytes_eq q.0 x) refl e (unmarked_in ps x prim h.1)
  where
    go : (b : Bool) → bytes_eq q.0 x ≡ b → cond b (Some q.1) (primitive_in ps x) ≡ Some prim → (primitive_in ps x ≡ Some prim → has_marks x ≡ false) → has_marks x ≡ false
    go true i e rest = subst (λ z. has_marks z ≡ false) (same_text q.0 x i) h.0
    go false i e rest = rest e

all_unmarked : Each (λ (q : Text × Primitive). has_marks q.0 ≡ false) primitives
all_unmarked = (refl, (refl, (refl, (refl, (refl, (refl, (refl, (refl, (refl, (refl, (refl, (refl, (refl, (refl, (refl, (refl, (refl, (refl, (refl, (refl, (refl, (refl, (refl, (refl, tt))))))))))))))))))))))))

pub primitive_unmarked : (x : Text) (prim : Primitive) → primitive_named x ≡ Some prim → has_marks x ≡ false
primitive_unmarked x prim e = unmarked_in primitives x prim all_unmarked e

-- ---- names in scope

named_where : (p : Program) (scope : Scope) (x : Text) → ((k : ℕ) × (t : Ty) × (named p scope x ≡ ALocal k t)) ⊎ (named p scope x ≡ item_named 0 p x)
named_where p [] x = inr refl
named_where p (l ∷ scope) x = go (bytes_eq l.called x) (named_where p scope x)
  where
    go : (b : Bool) → ((k : ℕ) × (t : Ty) × (named p scope x ≡ ALocal k t)) ⊎ (named p scope x ≡ item_named 0 p x)
        → ((k : ℕ) × (t : Ty) × (cond b (ALocal l.slot l.type) (named p scope x) ≡ ALocal k t)) ⊎ (cond b (ALocal l.slot l.type) (named p scope x) ≡ item_named 0 p x)
    go true w = inl (l.slot, l.type, refl)
    go false w = w

module _ (p : Program) (names : HasNames p) (scope : Scope) where
  abbrev pub Used : Text → Type 0
  Used x = UsedName p scope x

  -- a name that means something that is no cps function, or the name of a primitive
  pub is_used : (x : Text) → is_cps (named p scope x) ≡ false → (named p scope x ≡ NotMeant → has_marks x ≡ false) → Used x
  is_used x c free = go (named_where p scope x)
    where
      plain : (m : Meant) → named p scope x ≡ item_named 0 p x → (item_named 0 p x ≡ NotMeant) ⊎ ((i : Item) × Has i p × (name_of i ≡ x)) → has_marks x ≡ false
      plain m e (inl none) = free (e ∙ none)
      plain m e (inr w) = subst (λ y. has_marks y ≡ false) w.2 (names.items w.0 w.1).unmarked

      go : ((k : ℕ) × (t : Ty) × (named p scope x ≡ ALocal k t)) ⊎ (named p scope x ≡ item_named 0 p x) → Used x
      go (inl w) = IsVariable w.0 w.1 w.2
      go (inr e) = IsItem e (record { unmarked = plain NotMeant e (item_meant 0 p x); not_cps = sym (ap is_cps e) ∙ c })

  -- a name that has a type
  typed_used : (x : Text) (d : Typed) → type_named (named p scope x) ≡ Some d → Used x
  typed_used x d e = is_used x (go (named p scope x) e) (λ none. absurd (let k = ap type_named none in let i : None ≡ Some d = sym k ∙ e in cc))
    where
      go : (m : Meant) → type_named m ≡ Some d → is_cps m ≡ false
      go (ALocal k t) e = refl
      go (AGlobal k t) e = refl
      go (AFunction Native r ps) e = refl
      go (AFunction Detached r ps) e = refl
      go (AFunction Extern r ps) e = refl
      go (AFunction Cps r ps) e = no_some d e
      go NotMeant e = refl

  -- ---- expressions

  -- two operands with types of which something is made
  pub two_parts : (a b : Option Typed) (rest : Ty → Ty → Option Typed) (d : Typed) → (a >>= λ x. used x >>= λ t. b >>= λ y. used y >>= λ u. rest t u) ≡ Some d
      → ((x : Typed) × (a ≡ Some x)) × ((y : Typed) × (b ≡ Some y))
  two_parts None b rest d h = no_some d h
  two_parts (Some x) b rest d h = ((x, refl), second (used x) b h)
    where
      second : (o : Option Ty) (b : Option Typed) → (o >>= λ t. b >>= λ y. used y >>= λ u. rest t u) ≡ Some d → (y : Typed) × (b ≡ Some y)
      second None b h = no_some d h
      second (Some t) None h = no_some d h
      second (Some t) (Some y) h = (y, refl)

  tested_names : (e : Expr) (t : Ty) → ((d : Typed) → typing p scope e ≡ Some d → AllNames Used e) → tested_type (typing p scope e) ≡ Some t → AllNames Used e
  tested_names e t h k = let m = tested_is (typing p scope e) t k in h m.0 m.1

  pub typed_names : (e : Expr) (d : Typed) → typing p scope e ≡ Some d → AllNames Used e
  typed_names (ENamed x) d h = typed_used x d h
  typed_names (EInteger kind z) d h = tt
  typed_names (ECharacter z) d h = tt
  typed_names (EText bytes) d h = tt
  typed_names (EUnary AddressOf (ENamed x)) d h = let k = then_some (type_named (named p scope x)) _ d h in typed_used x k.0 k.1
  typed_names (EUnary sign e) d h = let k = sign_some sign (typing p scope e) d h in typed_names e k.0 k.1
  typed_names (EBinary op a b) d h =
      let k = two_parts (typing p scope a) (typing p scope b) (λ t u. binary_type p op (is_null a) (is_null b) t u >>= λ r. Some (AValue r)) d h in
      (typed_names a k.0.0 k.0.1, typed_names b k.1.0 k.1.1)
  typed_names (EAnd a b) d h =
      let k = then_some (tested_type (typing p scope a)) _ d h in
      let l = then_some (tested_type (typing p scope b)) _ d k.2 in
      (tested_names a k.0 (λ d h. typed_names a d h) k.1, tested_names b l.0 (λ d h. typed_names b d h) l.1)
  typed_names (EOr a b) d h =
      let k = then_some (tested_type (typing p scope a)) _ d h in
      let l = then_some (tested_type (typing p scope b)) _ d k.2 in
      (tested_names a k.0 (λ d h. typed_names a d h) k.1, tested_names b l.0 (λ d h. typed_names b d h) l.1)
  typed_names (EChoose c a b) d h =
      let o = then_some (tested_type (typing p scope c)) _ d h in
      let k = two_parts (typing p scope a) (typing p scope b) (λ t u. choice_type (is_null a) (is_null b) t u >>= λ r. Some (AValue r)) d o.2 in
      (tested_names c o.0 (λ d h. typed_names c d h) o.1, typed_names a k.0.0 k.0.1, typed_names b k.1.0 k.1.1)
  typed_names (ECast t e) d h = let k = then_some (typing p scope e) _ d h in typed_names e k.0 k.1
  typed_names (ESizeOf t) d h = tt
  typed_names (EIndex a i) d h =
      let k = two_parts (typing p scope a) (typing p scope i) (λ t u. sum_type p t u >>= λ r. target r >>= λ v. Some (APlace v)) d h in
      (typed_names a k.0.0 k.0.1, typed_names i k.1.0 k.1.1)
  typed_names (EMember e x) d h = let k = then_some (typing p scope e) _ d h in typed_names e k.0 k.1
  typed_names (EArrow e x) d h = let k = then_some (typing p scope e) _ d h in typed_names e k.0 k.1
  typed_names (ECall g es) d h = tt

  -- ---- arguments

  pub gets_names : (t : Ty) (e : Expr) → Gets p scope t e → AllNames Used e
  gets_names t e h = typed_names e h.typed h.is_typed

  pub test_names : (e : Expr) → IsTest p scope e → AllNames Used e
  test_names e h = typed_names e h.typed h.is_typed

  pub all_get_names : (ts : List Ty) (es : Exprs) → AllGet p scope ts es → AllNamesAmong Used es
  all_get_names [] NoExpr h = tt
  all_get_names (t ∷ ts) (AndExpr e es) h = (gets_names t e h.0, all_get_names ts es h.1)
  all_get_names [] (AndExpr e es) h = absurd h
  all_get_names (t ∷ ts) NoExpr h = absurd h

  pub each_gets_names : (t : Ty) (es : Exprs) → EachGets p scope t es → AllNamesAmong Used es
  each_gets_names t NoExpr h = tt
  each_gets_names t (AndExpr e es) h = (gets_names t e h.0, each_gets_names t es h.1)

  -- the name of a callback
  function_used : (t : Ty) (x : Text) → NamesFunction p scope t x → Used x
  function_used t x h = is_used x (ap is_cps h.is_meant ∙ go h.is_value) (λ none. absurd (let i : AFunction h.mode h.result h.parameters ≡ NotMeant = sym h.is_meant ∙ none in cc))
    where
      go : (h.mode ≡ Native) ⊎ (h.mode ≡ Detached) → is_cps (AFunction h.mode h.result h.parameters) ≡ false
      go (inl e) = ap (λ m. is_cps (AFunction m h.result h.parameters)) e
      go (inr e) = ap (λ m. is_cps (AFunction m h.result h.parameters)) e

  code_names : (r : Ty) (ps : _) (e : Expr) → GetsTaken p scope (SetOf (TyCode r ps)) e → AllNames Used e
  code_names r ps (ENamed x) h = function_used (TyCode r ps) x h
  code_names r ps _ h = absurd h

  taken_names : (t : Taken) (e : Expr) → GetsTaken p scope t e → AllNames Used e
  taken_names AnyInteger e h = gets_names _ e h
  taken_names (SetOf (TyCode r ps)) e h = code_names r ps e h
  taken_names (SetOf TyVoid) e h = gets_names _ e h
  taken_names (SetOf (TyInt k)) e h = gets_names _ e h
  taken_names (SetOf TyCondvar) e h = gets_names _ e h
  taken_names (SetOf (TyPointer t)) e h = gets_names _ e h
  taken_names (SetOf (TyStruct tag)) e h = gets_names _ e h
  taken_names (SetOf (TyArray t n)) e h = gets_names _ e h
  taken_names (FreeOf t) e h = gets_names _ e h

  pub all_taken_names : (ts : List Taken) (es : Exprs) → AllGetTaken p scope ts es → AllNamesAmong Used es
  all_taken_names [] NoExpr h = tt
  all_taken_names (t ∷ ts) (AndExpr e es) h = (taken_names t e h.0, all_taken_names ts es h.1)
  all_taken_names [] (AndExpr e es) h = absurd h
  all_taken_names (t ∷ ts) NoExpr h = absurd h
