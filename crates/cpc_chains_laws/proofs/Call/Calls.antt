-- What calls by their manner do: those that are left over a frame enter a function, and those in place ask for what both machines answer.
use Rattle.std.proofs.Common.{◌≡◌, true, false, List, Option, Some, None, refl}
use Rattle.cpc_base.specs.Bytes.{Text}
use Rattle.cpc_base.specs.declared.stop.Dialect.TheVariants as D
use Rattle.cpc_check_laws.specs.Sound.Typed.{is_for, Calls}
use Rattle.cpc_store.specs.Store.{Store}
use Rattle.cpc_tree.specs.declared.program.Mode.{Mode}
use Rattle.cpc_tree.specs.declared.program.Mode.TheVariants.{Extern, Native, Cps, Detached}
use Rattle.cpc_tree.specs.Points.{Simple}
use Rattle.cpc_tree.specs.Syntax.{Ty, Expr, ENamed, Exprs, Call, Function, Program}
use Rattle.cpc_tree.specs.Typing.{Scope, Meant, ALocal, AGlobal, AFunction, NotMeant, named, function_named, parameter_types, code_parameters}
use Rattle.cpc_meaning.specs.Act.{Act, Enters, AsksFor, calls, callee, calls_value, asks_with, puts_text, calls_named, calls_expr}
use Rattle.cpc_meaning.specs.Answer.{needed}
use Rattle.cpc_meaning.specs.Eval.{Slot, Context, value, values, used_type}
use Rattle.cpc_meaning.specs.Requests.{Primitive, Yield, Sleep, IoWait, Wait, RtFrame, RtBox, RtFrameFree, RtUnbox, RtReady, RtWait, RtSleep, RtIo, RtDetach, primitive_named, takes, all_taken, all_long, arguments}
use Rattle.cpc_meaning.specs.Ways.{InPlace, ByFrame, AsCps, primitive_manner, meant_manner, manner_of}
use Rattle.cpc_meaning_laws.proofs.Pointer.Blocks.{Only, any_then}
use Rattle.cpc_convert_image_laws.specs.InPlace.{is_cps}
use Rattle.cpc_lifted_laws.specs.Accepted.Names.{HasNames}
use Rattle.cpc_lifted_laws.specs.Accepted.Points.{StaysItself, in_scope}
use Rattle.cpc_lifted_laws.proofs.Accepted.Statements.{called_primitive}
use Rattle.cpc_chains_laws.proofs.Related.Setting.{is_common, is_answered}

-- an act that enters a function
abbrev pub IsEntry : Act → Type 0
IsEntry (Enters g vs) = Unit {0}
IsEntry a = ⊥

-- ---- values

calls_enter : (c : Context) (f : Function) (es : Exprs) → Only IsEntry (calls c f es)
calls_enter c f es = any_then IsEntry (values c es) _ λ vs. any_then IsEntry (arguments (parameter_types f) vs) _ λ ws. tt

value_enters : (c : Context) (f : Expr) (es : Exprs) → Only IsEntry (calls_value c f es)
value_enters c f es =
    any_then IsEntry (value c f) _ λ v.
    any_then IsEntry (needed (used_type c f)) _ λ t.
    any_then IsEntry (values c es) _ λ vs.
    any_then IsEntry (arguments (code_parameters t) vs) _ λ ws.
    any_then IsEntry (callee c.program t v) _ λ g. tt

-- ---- names

not_framed : (prim : Primitive) → primitive_manner (Some prim) ≡ ByFrame → ⊥
not_framed Yield e = absurd (cc)
not_framed Sleep e = absurd (cc)
not_framed IoWait e = absurd (cc)
not_framed Wait e = absurd (cc)
not_framed _ e = absurd (cc)

module _ (c : Context) (x : Text) (es : Exprs) where
  function_enters : (m : Meant) (prim : Option Primitive) (f : Option Function) → meant_manner m prim ≡ ByFrame → Only IsEntry (calls_named c x es m prim f)
  function_enters (AFunction Extern r ps) prim f e = absurd (cc)
  function_enters (AFunction Cps r ps) prim f e = absurd (cc)
  function_enters (AFunction Native r ps) prim (Some f) e = calls_enter c f es
  function_enters (AFunction Detached r ps) prim (Some f) e = calls_enter c f es
  function_enters (AFunction Native r ps) prim None e = value_enters c (ENamed x) es
  function_enters (AFunction Detached r ps) prim None e = value_enters c (ENamed x) es
  function_enters (ALocal k t) prim f e = value_enters c (ENamed x) es
  function_enters (AGlobal k t) prim f e = value_enters c (ENamed x) es
  function_enters NotMeant (Some prim) f e = absurd (not_framed prim e)
  function_enters NotMeant None f e = value_enters c (ENamed x) es

-- a call that is left over a frame enters a function, where it gives anything
pub framed_enters : (c : Context) (to : Option Expr) (f : Expr) (es : Exprs) → manner_of c.program c.scope (Simple (Call to f es)) ≡ ByFrame → Only IsEntry (calls_expr c f es)
framed_enters c to (ENamed x) es e = function_enters c x es (named c.program c.scope x) (primitive_named x) (function_named c.program x) e
framed_enters c to f es e = value_enters c f es

-- ---- cps statements

no_cps : (m : Meant) (prim : Option Primitive) → ¬ (meant_manner m prim ≡ AsCps) → is_cps m ≡ false
no_cps (AFunction Cps r ps) prim h = absurd (h refl)
no_cps (AFunction Extern r ps) prim h = refl
no_cps (AFunction Native r ps) prim h = refl
no_cps (AFunction Detached r ps) prim h = refl
no_cps (ALocal k t) prim h = refl
no_cps (AGlobal k t) prim h = refl
no_cps NotMeant prim h = refl

-- a call that is no cps statement stays itself
pub call_itself : (p : Program) (scope : Scope) (to : Option Expr) (f : Expr) (es : Exprs) → ¬ (manner_of p scope (Simple (Call to f es)) ≡ AsCps) → StaysItself p scope (Call to f es)
call_itself p scope to (ENamed x) es h = no_cps (named p scope x) (primitive_named x) h
call_itself p scope to f es h = tt

-- ---- requests

-- a request that both machines answer alike
abbrev pub IsRequest : Act → Type 0
IsRequest (AsksFor r) = is_answered r.asked ≡ true
IsRequest a = ⊥

-- a primitive of the threads in place is one of both machines
common : (prim : Primitive) → is_for D.Cpc prim ≡ true → primitive_manner (Some prim) ≡ InPlace → is_common prim ≡ true
common Yield h e = absurd (cc)
common Sleep h e = absurd (cc)
common IoWait h e = absurd (cc)
common Wait h e = absurd (cc)
common RtFrame h e = absurd (cc)
common RtBox h e = absurd (cc)
common RtFrameFree h e = absurd (cc)
common RtUnbox h e = absurd (cc)
common RtReady h e = absurd (cc)
common RtWait h e = absurd (cc)
common RtSleep h e = absurd (cc)
common RtIo h e = absurd (cc)
common RtDetach h e = absurd (cc)
common _ h e = refl

module _ (c : Context) (x : Text) (es : Exprs) where
  primitive_asks : (prim : Primitive) (o : Option Text) → is_common prim ≡ true → Only IsRequest (asks_with c prim es o)
  primitive_asks prim (Some bytes) h = h
  primitive_asks prim None h = any_then IsRequest (values c es) _ λ vs. any_then IsRequest (all_taken (takes c.program prim vs) vs) _ λ ws. h

  name_asks : (m : Meant) (prim : Option Primitive) (f : Option Function) → meant_manner m prim ≡ InPlace → ((q : Primitive) → m ≡ NotMeant → prim ≡ Some q → is_for D.Cpc q ≡ true) → Only IsRequest (calls_named c x es m prim f)
  name_asks (AFunction Extern r ps) prim f e h = any_then IsRequest (values c es) _ λ vs. any_then IsRequest (all_long vs) _ λ ws. refl
  name_asks (AFunction Cps r ps) prim f e h = absurd (cc)
  name_asks (AFunction Native r ps) prim f e h = absurd (cc)
  name_asks (AFunction Detached r ps) prim f e h = absurd (cc)
  name_asks (ALocal k t) prim f e h = absurd (cc)
  name_asks (AGlobal k t) prim f e h = absurd (cc)
  name_asks NotMeant (Some prim) f e h = primitive_asks prim (puts_text prim es) (common prim (h prim refl refl) e)
  name_asks NotMeant None f e h = absurd (cc)

-- a call in place that is typed asks for what both machines answer, where it gives anything
pub placed_asks : (p : Program) → HasNames p → (mode : Mode) (scope : Scope) (slots : List Slot) (s : Store) (to : Option Expr) (f : Expr) (es : Exprs) (t : Ty) → manner_of p scope (Simple (Call to f es)) ≡ InPlace → Calls D.Cpc p mode scope f es t
    → Only IsRequest (calls_expr (in_scope p scope slots s) f es)
placed_asks p names mode scope slots s to (ENamed x) es t e typed =
    name_asks (in_scope p scope slots s) x es (named p scope x) (primitive_named x) (function_named p x) e (λ q none i. (called_primitive p names mode scope (ENamed x) es t typed x refl none q i).0)
placed_asks p names mode scope slots s to f es t e typed = absurd (cc)
