-- Arguments: what typed ones come to, and what is asked of the machine with them.
use Rattle.std.proofs.Common.{◌≡◌, ◌⊎◌, inl, inr, true, false, List, [], ◌∷◌, Some, refl, sym, ◌∙◌, ap, subst}
use Rattle.cpc_base.specs.Bytes.{Text}
use Rattle.cpc_base.specs.declared.stop.Dialect.{Dialect}
use Rattle.cpc_base.proofs.Truth.{by_false_true}
use Rattle.cpc_num.specs.declared.kinds.Kind.{Kind}
use Rattle.cpc_num.specs.declared.kinds.Kind.TheVariants.{Int, Long}
use Rattle.cpc_tree.specs.declared.program.Mode.{Mode}
use Rattle.cpc_tree.specs.declared.program.Mode.TheVariants.{Native, Detached}
use Rattle.cpc_tree.specs.Syntax.{Ty, TyVoid, TyInt, TyCondvar, TyPointer, TyCode, TyStruct, TyArray, Tys, Expr, ENamed, Exprs, NoExpr, AndExpr, Function, Program}
use Rattle.cpc_tree.specs.Typing.{AFunction, Typed, named, typing, used, is_scalar, function_named, function_type, parameter_types}
use Rattle.cpc_tree.specs.Registers.{addresses, addresses_all}
use Rattle.cpc_tree.specs.Primitives.{Primitive, Puts, RtDetach, Taken, AnyInteger, SetOf, FreeOf, takes_first}
use Rattle.cpc_store.specs.Store.{Value, Unset, Whole, Null, At, Code, Cond}
use Rattle.cpc_meaning.specs.Answer.{Gives}
use Rattle.cpc_meaning.specs.Eval.{Context, value, values, assigned, at_type}
use Rattle.cpc_meaning.specs.Requests.{Asked, Builtin, Host, ToSpawn, Section, section_takes, set_integer, taken_as, all_taken, all_long, arguments}
use Rattle.cpc_check_rules.specs.Operators.{is_detached}
use Rattle.cpc_check_rules.specs.Calls.{gives, is_closed}
use Rattle.cpc_check_laws.specs.Sound.Suits.{Comes, Suits, converts, SuitSlots, ScopeOf, AllBoxed}
use Rattle.cpc_check_laws.specs.Sound.Typed.{Gets, AllGet, EachGets, NamesFunction, GetsTaken, AllGetTaken, IsSection, IsOpen, is_for}
use Rattle.cpc_check_laws.proofs.Sound.Answers.{comes_then, comes_as}
use Rattle.cpc_check_laws.proofs.Sound.Conversions.{assigned_comes, cast_comes}
use Rattle.cpc_check_laws.proofs.Sound.Expressions.{expressions_answer}
use Rattle.cpc_check_laws.proofs.Sound.Lookups.{boxed_left, boxed_right}

-- ---- values that go to types

abbrev pub Becomes : Ty → Value → Type 0
Becomes t v = (u : Ty) × (converts t u ≡ true) × Suits u v

-- values of these types, one each
abbrev pub AllSuit : List Ty → List Value → Type 0
AllSuit [] [] = Unit {0}
AllSuit (t ∷ ts) (v ∷ vs) = Suits t v × AllSuit ts vs
AllSuit _ _ = ⊥

abbrev pub AllBecome : List Ty → List Value → Type 0
AllBecome [] [] = Unit {0}
AllBecome (t ∷ ts) (v ∷ vs) = Becomes t v × AllBecome ts vs
AllBecome _ _ = ⊥

abbrev pub EachBecomes : Ty → List Value → Type 0
EachBecomes t [] = Unit {0}
EachBecomes t (v ∷ vs) = Becomes t v × EachBecomes t vs

abbrev pub IsWhole : Value → Type 0
IsWhole (Whole kind z) = Unit {0}
IsWhole _ = ⊥

abbrev pub AllWhole : List Value → Type 0
AllWhole [] = Unit {0}
AllWhole (v ∷ vs) = IsWhole v × AllWhole vs

abbrev pub IsCond : Value → Type 0
IsCond (Cond n) = Unit {0}
IsCond _ = ⊥

-- the code of a function of the type
abbrev pub IsCallback : Program → Ty → Value → Type 0
IsCallback p t (Code x) = (g : Function) × (function_named p x ≡ Some g) × (t ≡ function_type g.result (parameter_types g))
IsCallback p t _ = ⊥

-- a value before it is taken, and as it is taken
abbrev pub Ready : Program → Taken → Value → Type 0
Ready p AnyInteger v = Becomes (TyInt Long) v
Ready p (SetOf (TyCode r ps)) v = IsCallback p (TyCode r ps) v
Ready p (SetOf t) v = Becomes t v
Ready p (FreeOf t) v = Becomes t v

abbrev pub IsTaken : Program → Taken → Value → Type 0
IsTaken p AnyInteger v = IsWhole v
IsTaken p (SetOf (TyInt k)) v = IsWhole v
IsTaken p (SetOf TyCondvar) v = IsCond v
IsTaken p (SetOf (TyCode r ps)) v = IsCallback p (TyCode r ps) v
IsTaken p (SetOf t) v = Suits t v
IsTaken p (FreeOf t) v = Suits t v

abbrev pub AllReady : Program → List Taken → List Value → Type 0
AllReady p [] [] = Unit {0}
AllReady p (t ∷ ts) (v ∷ vs) = Ready p t v × AllReady p ts vs
AllReady p _ _ = ⊥

abbrev pub AllTaken : Program → List Taken → List Value → Type 0
AllTaken p [] [] = Unit {0}
AllTaken p (t ∷ ts) (v ∷ vs) = IsTaken p t v × AllTaken p ts vs
AllTaken p _ _ = ⊥

-- ---- requests

-- what a section is given
abbrev pub SectionGiven : Program → Text → List Value → Type 0
SectionGiven p x vs = (f : Function) × IsSection p x f × AllTaken p (section_takes (parameter_types f)) vs

abbrev pub callback_type : Ty
callback_type = function_type TyVoid (TyPointer TyVoid ∷ TyInt Int ∷ [])

-- the arguments of a primitive
abbrev pub PrimitiveGiven : Program → Primitive → List Value → Type 0
PrimitiveGiven p Puts vs = Unit {0}
PrimitiveGiven p RtDetach (cb ∷ v ∷ Code x ∷ vs) = IsCallback p callback_type cb × Suits (TyPointer TyVoid) v × SectionGiven p x vs
PrimitiveGiven p RtDetach _ = ⊥
PrimitiveGiven p prim vs = AllTaken p (takes_first prim) vs

-- what code in a function of a mode may ask for, and the type of the answer
pub data IsRequest (d : Dialect) (p : Program) (around : Mode) : Asked → List Value → Ty → Type 0 where
  AsksPrimitive : (prim : Primitive) (vs : List Value) → is_for d prim ≡ true → (is_detached around ≡ true → is_closed prim ≡ true) → PrimitiveGiven p prim vs → IsRequest d p around (Builtin prim) vs (gives prim)
  AsksHost : (x : Text) (vs : List Value) → is_detached around ≡ false → AllWhole vs → IsRequest d p around (Host x) vs (TyInt Long)
  AsksSpawn : (x : Text) (vs : List Value) (g : Function) → IsOpen d around → function_named p x ≡ Some g → AllSuit (parameter_types g) vs → IsRequest d p around (ToSpawn x) vs TyVoid
  AsksSection : (x : Text) (vs : List Value) → IsOpen d around → SectionGiven p x vs → IsRequest d p around (Section x) vs (TyInt Int)

-- ---- conversions of arguments

pub becomes_comes : (t : Ty) (v : Value) → Becomes t v → Comes (Suits t) (assigned t v)
becomes_comes t v h = assigned_comes t h.0 v h.1 h.2

pub arguments_come : (ts : List Ty) (vs : List Value) → AllBecome ts vs → Comes (AllSuit ts) (arguments ts vs)
arguments_come [] [] h = tt
arguments_come (t ∷ ts) (v ∷ vs) h =
    comes_then (Suits t) (AllSuit (t ∷ ts)) (assigned t v) _ (becomes_comes t v h.0) λ w k. comes_then (AllSuit ts) (AllSuit (t ∷ ts)) (arguments ts vs) _ (arguments_come ts vs h.1) (λ ws l. (k, l))
arguments_come [] (v ∷ vs) h = absurd h
arguments_come (t ∷ ts) [] h = absurd h

set_comes : (k : Kind) (t : Ty) (v : Value) → converts (TyInt k) t ≡ true → Suits t v → Comes IsWhole (at_type (TyInt k) v)
set_comes k (TyInt j) Unset e h = tt
set_comes k (TyInt j) (Whole i z) e h = tt
set_comes k (TyInt j) _ e h = absurd h
set_comes k _ v e h = by_false_true e

cond_comes : (t : Ty) (v : Value) → converts TyCondvar t ≡ true → Suits t v → Comes IsCond (at_type TyCondvar v)
cond_comes TyCondvar Unset e h = tt
cond_comes TyCondvar (Cond n) e h = tt
cond_comes TyCondvar _ e h = absurd h
cond_comes _ v e h = by_false_true e

integer_comes : (k : Kind) (t : Ty) (v : Value) → converts (TyInt k) t ≡ true → Suits t v → Comes IsWhole (set_integer v)
integer_comes k (TyInt j) Unset e h = tt
integer_comes k (TyInt j) (Whole i z) e h = tt
integer_comes k (TyInt j) _ e h = absurd h
integer_comes k _ v e h = by_false_true e

pub longs_come : (vs : List Value) → EachBecomes (TyInt Long) vs → Comes AllWhole (all_long vs)
longs_come [] h = tt
longs_come (v ∷ vs) h =
    comes_then IsWhole AllWhole (at_type (TyInt Long) v) _ (set_comes Long h.0.0 v h.0.1 h.0.2) λ w k. comes_then AllWhole AllWhole (all_long vs) _ (longs_come vs h.1) (λ ws l. (k, l))

module _ (p : Program) where
  callback_comes : (r : Ty) (ps : Tys) (v : Value) → IsCallback p (TyCode r ps) v → Comes (IsCallback p (TyCode r ps)) (at_type (TyCode r ps) v)
  callback_comes r ps (Code x) h = h
  callback_comes r ps Unset h = absurd h
  callback_comes r ps (Whole k z) h = absurd h
  callback_comes r ps Null h = absurd h
  callback_comes r ps (At c n k) h = absurd h
  callback_comes r ps (Cond n) h = absurd h

  taken_comes : (t : Taken) (v : Value) → Ready p t v → Comes (IsTaken p t) (taken_as t v)
  taken_comes AnyInteger v h = integer_comes Long h.0 v h.1 h.2
  taken_comes (SetOf (TyInt k)) v h = set_comes k h.0 v h.1 h.2
  taken_comes (SetOf TyCondvar) v h = cond_comes h.0 v h.1 h.2
  taken_comes (SetOf (TyCode r ps)) v h = callback_comes r ps v h
  taken_comes (SetOf TyVoid) v h = cast_comes TyVoid h.0 v h.1 h.2
  taken_comes (SetOf (TyPointer t)) v h = cast_comes (TyPointer t) h.0 v h.1 h.2
  taken_comes (SetOf (TyStruct tag)) v h = cast_comes (TyStruct tag) h.0 v h.1 h.2
  taken_comes (SetOf (TyArray t n)) v h = cast_comes (TyArray t n) h.0 v h.1 h.2
  taken_comes (FreeOf t) v h = becomes_comes t v h

  pub all_taken_come : (ts : List Taken) (vs : List Value) → AllReady p ts vs → Comes (AllTaken p ts) (all_taken ts vs)
  all_taken_come [] [] h = tt
  all_taken_come (t ∷ ts) (v ∷ vs) h =
      comes_then (IsTaken p t) (AllTaken p (t ∷ ts)) (taken_as t v) _ (taken_comes t v h.0) λ w k. comes_then (AllTaken p ts) (AllTaken p (t ∷ ts)) (all_taken ts vs) _ (all_taken_come ts vs h.1) (λ ws l. (k, l))
  all_taken_come [] (v ∷ vs) h = absurd h
  all_taken_come (t ∷ ts) [] h = absurd h

-- ---- values of typed arguments

pub converts_scalar : (t u : Ty) → converts t u ≡ true → (is_scalar t ≡ true) × (is_scalar u ≡ true)
converts_scalar (TyInt j) (TyInt k) e = (refl, refl)
converts_scalar (TyPointer t) (TyPointer u) e = (refl, refl)
converts_scalar (TyPointer t) (TyInt k) e = (refl, refl)
converts_scalar (TyCode r ps) (TyCode q qs) e = (refl, refl)
converts_scalar (TyCode r ps) (TyInt k) e = (refl, refl)
converts_scalar TyCondvar TyCondvar e = (refl, refl)
converts_scalar _ _ e = by_false_true e

module _ (c : Context) (ts : List Ty) (in_scope : ScopeOf ts c.scope) (in_slots : SuitSlots ts c.slots) where
  pub value_suits : (e : Expr) (d : Typed) (t : Ty) → AllBoxed c.slots (addresses c.scope e) → typing c.program c.scope e ≡ Some d → used d ≡ Some t → is_scalar t ≡ true → Comes (Suits t) (value c e)
  value_suits e d t b h f sc = (expressions_answer c ts e d in_scope in_slots b h).0 t f sc

  pub got_comes : (t : Ty) (e : Expr) → Gets c.program c.scope t e → AllBoxed c.slots (addresses c.scope e) → Comes (Becomes t) (value c e)
  got_comes t e g b = comes_as (Suits g.type) (Becomes t) (value c e) (value_suits e g.typed g.type b g.is_typed g.is_type (converts_scalar t g.type g.converts).1) (λ v h. (g.type, g.converts, h))

  pub all_get_come : (us : List Ty) (es : Exprs) → AllGet c.program c.scope us es → AllBoxed c.slots (addresses_all c.scope es) → Comes (AllBecome us) (values c es)
  all_get_come [] NoExpr g b = tt
  all_get_come (t ∷ us) (AndExpr e es) g b =
      comes_then (Becomes t) (AllBecome (t ∷ us)) (value c e) _ (got_comes t e g.0 (boxed_left c.slots (addresses c.scope e) (addresses_all c.scope es) b)) λ v h.
      comes_then (AllBecome us) (AllBecome (t ∷ us)) (values c es) _ (all_get_come us es g.1 (boxed_right c.slots (addresses c.scope e) (addresses_all c.scope es) b)) (λ vs k. (h, k))
  all_get_come [] (AndExpr e es) g b = absurd g
  all_get_come (t ∷ us) NoExpr g b = absurd g

  pub each_gets_come : (t : Ty) (es : Exprs) → EachGets c.program c.scope t es → AllBoxed c.slots (addresses_all c.scope es) → Comes (EachBecomes t) (values c es)
  each_gets_come t NoExpr g b = tt
  each_gets_come t (AndExpr e es) g b =
      comes_then (Becomes t) (EachBecomes t) (value c e) _ (got_comes t e g.0 (boxed_left c.slots (addresses c.scope e) (addresses_all c.scope es) b)) λ v h.
      comes_then (EachBecomes t) (EachBecomes t) (values c es) _ (each_gets_come t es g.1 (boxed_right c.slots (addresses c.scope e) (addresses_all c.scope es) b)) (λ vs k. (h, k))

  -- the name of a function is its code
  pub code_comes : (t : Ty) (x : Text) → NamesFunction c.program c.scope t x → value c (ENamed x) ≡ Gives (Code x)
  code_comes t x g = go g.mode g.is_value g.is_meant
    where
      go : (mode : Mode) → (mode ≡ Native) ⊎ (mode ≡ Detached) → named c.program c.scope x ≡ AFunction mode g.result g.parameters → value c (ENamed x) ≡ Gives (Code x)
      go mode (inl i) e = let f : named c.program c.scope x ≡ AFunction Native g.result g.parameters = e ∙ ap (λ m. AFunction m g.result g.parameters) i in simp (f) refl
      go mode (inr i) e = let f : named c.program c.scope x ≡ AFunction Detached g.result g.parameters = e ∙ ap (λ m. AFunction m g.result g.parameters) i in simp (f) refl

  ready_comes : (t : Taken) (e : Expr) → GetsTaken c.program c.scope t e → AllBoxed c.slots (addresses c.scope e) → Comes (Ready c.program t) (value c e)
  ready_comes AnyInteger e g b = got_comes (TyInt Long) e g b
  ready_comes (SetOf (TyCode r ps)) (ENamed x) g b = subst (Comes (IsCallback c.program (TyCode r ps))) (sym (code_comes (TyCode r ps) x g)) (g.function, g.is_function, g.is_type)
  ready_comes (SetOf (TyCode r ps)) _ g b = absurd g
  ready_comes (SetOf (TyInt k)) e g b = got_comes (TyInt k) e g b
  ready_comes (SetOf TyCondvar) e g b = got_comes TyCondvar e g b
  ready_comes (SetOf TyVoid) e g b = got_comes TyVoid e g b
  ready_comes (SetOf (TyPointer t)) e g b = got_comes (TyPointer t) e g b
  ready_comes (SetOf (TyStruct tag)) e g b = got_comes (TyStruct tag) e g b
  ready_comes (SetOf (TyArray t n)) e g b = got_comes (TyArray t n) e g b
  ready_comes (FreeOf t) e g b = got_comes t e g b

  pub all_ready_come : (us : List Taken) (es : Exprs) → AllGetTaken c.program c.scope us es → AllBoxed c.slots (addresses_all c.scope es) → Comes (AllReady c.program us) (values c es)
  all_ready_come [] NoExpr g b = tt
  all_ready_come (t ∷ us) (AndExpr e es) g b =
      comes_then (Ready c.program t) (AllReady c.program (t ∷ us)) (value c e) _ (ready_comes t e g.0 (boxed_left c.slots (addresses c.scope e) (addresses_all c.scope es) b)) λ v h.
      comes_then (AllReady c.program us) (AllReady c.program (t ∷ us)) (values c es) _ (all_ready_come us es g.1 (boxed_right c.slots (addresses c.scope e) (addresses_all c.scope es) b)) (λ vs k. (h, k))
  all_ready_come [] (AndExpr e es) g b = absurd g
  all_ready_come (t ∷ us) NoExpr g b = absurd g
