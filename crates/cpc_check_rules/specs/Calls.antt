-- What calls break: of a function, of a primitive, or by a pointer.
use Rattle.std.specs.Prelude.{ℕ, ◌==◌, ◌-◌, max, Bool, true, false, ◌&&◌, not, if◌then◌else◌, List, [], ◌∷◌, ◌++◌, length, map, replicate, Option, Some, None}
use Rattle.cpc_base.specs.declared.stop.Place.{Place}
use Rattle.cpc_base.specs.declared.stop.Dialect.{Dialect}
use Rattle.cpc_base.specs.declared.stop.Dialect.TheVariants as D
use Rattle.cpc_tree.specs.KindVariants.{Int, Long}
use Rattle.cpc_tree.specs.declared.program.Mode.{Mode}
use Rattle.cpc_tree.specs.declared.program.Mode.TheVariants.{Cps, Detached}
use Rattle.cpc_tree.specs.Syntax.{Ty, TyVoid, TyInt, TyCondvar, TyPointer, TyCode}
use Rattle.cpc_tree.specs.Located.{LExpr, LNamed, LExprs, NoLExpr, AndLExpr, bare_expr}
use Rattle.cpc_tree.specs.Typing.{Meant, AFunction, NotMeant, Typed, used, list_of_tys, cells}
use Rattle.cpc_tree.specs.Primitives.{Primitive, Puts, Now, CondNew, Malloc, Free, Yield, Sleep, IoWait, Wait, RtFrame, RtBox, RtFrameFree, RtUnbox, RtReady, RtWait, RtSleep, RtIo, RtDetach, primitive_named, Taken, AnyInteger, SetOf, FreeOf, any_pointer, takes_first}
use Rattle.cpc_check_rules.specs.declared.rule.Rule.TheVariants.{Undeclared, Disagree, WrongNumber, CpsInNative, NotClosed, RtCall, CpsForm}
use Rattle.cpc_check_rules.specs.Rule.{Broken, at_if}
use Rattle.cpc_check_rules.specs.Scopes.{Scope, meant, takes_typed}
use Rattle.cpc_check_rules.specs.Operators.{Where, typed_at, used_of, first, is_detached, is_cps}

-- What an argument must be: any integer, assignable to a type, the name of a function of a type, a string, the name
-- of the function of a section, or anything.
pub data Wanted : Type 0 where
  Integer : Wanted
  Of : Ty → Wanted
  Callback : Ty → Wanted
  String : Wanted
  ForSection : Wanted
  Anything : Wanted

abbrev pub wanted_of : Taken → Wanted
wanted_of AnyInteger = Integer
wanted_of (SetOf (TyCode r ps)) = Callback (TyCode r ps)
wanted_of (SetOf t) = Of t
wanted_of (FreeOf t) = Of t

-- What a function can be called by: the arguments that it wants and the type of its result, or nothing, where what is
-- called is no function.
pub data Callee : Type 0 where
  Takes : List Wanted → (result : Ty) → Callee
  NoCallee : Callee

-- a function of a section: its first parameter points to cells that are all integers, its others are integers
abbrev pub is_integer : Ty → Bool
is_integer (TyInt kind) = true
is_integer t = false

abbrev pub all_integers : List Ty → Bool
all_integers [] = true
all_integers (t ∷ ts) = is_integer t && all_integers ts

abbrev pub are_integers : Option (List Ty) → Bool
are_integers None = false
are_integers (Some ts) = all_integers ts

abbrev pub points_to_integers : Scope → Ty → Bool
points_to_integers s (TyPointer t) = are_integers (cells s.items t)
points_to_integers s t = false

abbrev pub takes_section : Scope → List Ty → Bool
takes_section s [] = false
takes_section s (t ∷ ts) = points_to_integers s t && all_integers ts

abbrev pub section_callee : Scope → Meant → Callee
section_callee s (AFunction Detached (TyInt Int) ps) = if takes_section s ps then Takes (map (λ t. Of t) ps) (TyInt Int) else NoCallee
section_callee s m = NoCallee

-- what `cpc_spawn` starts
abbrev pub spawn_callee : Meant → Callee
spawn_callee (AFunction Cps r ps) = Takes (map (λ t. Of t) ps) r
spawn_callee m = NoCallee

-- the number of arguments
abbrev pub count : LExprs → List LExpr
count NoLExpr = []
count (AndLExpr e es) = e ∷ count es

-- The arguments of a primitive. Those of `rt_detach` go on with the ones of the section's function; where none is named,
-- with as many as are given, and one at least.
abbrev pub detached_wants : (given : ℕ) → Callee → List Wanted
detached_wants given (Takes wants result) = ForSection ∷ wants
detached_wants given NoCallee = ForSection ∷ replicate (max (given - 3) 1) Anything

abbrev pub third : LExprs → Option LExpr
third (AndLExpr a (AndLExpr b (AndLExpr c es))) = Some c
third es = None

abbrev pub section_of : Scope → Option LExpr → Callee
section_of s (Some (LNamed x)) = section_callee s (meant s x.text)
section_of s o = NoCallee

abbrev pub wants : Scope → Primitive → LExprs → List Wanted
wants s Puts es = String ∷ []
wants s RtDetach es = map wanted_of (takes_first RtDetach) ++ detached_wants (length (count es)) (section_of s (third es))
wants s primitive es = map wanted_of (takes_first primitive)

abbrev pub gives : Primitive → Ty
gives Now = TyInt Long
gives CondNew = TyCondvar
gives Malloc = any_pointer
gives Sleep = TyInt Int
gives IoWait = TyInt Int
gives RtFrame = any_pointer
gives RtBox = any_pointer
gives primitive = TyVoid

-- the primitives at which a thread gives up the processor, which cps functions alone may call
abbrev pub gives_up : Primitive → Bool
gives_up Yield = true
gives_up Sleep = true
gives_up IoWait = true
gives_up Wait = true
gives_up primitive = false

-- the primitives of the dialect Event alone
abbrev pub is_rt : Primitive → Bool
is_rt RtFrame = true
is_rt RtBox = true
is_rt RtFrameFree = true
is_rt RtUnbox = true
is_rt RtReady = true
is_rt RtWait = true
is_rt RtSleep = true
is_rt RtIo = true
is_rt RtDetach = true
is_rt primitive = false

-- the primitives that a detached function may call
abbrev pub is_closed : Primitive → Bool
is_closed Malloc = true
is_closed Free = true
is_closed primitive = false

abbrev pub is_event : Dialect → Bool
is_event D.Event = true
is_event D.Cpc = false

-- a primitive called by its name
abbrev pub primitive_breaks : Where → Place → Primitive → Broken
primitive_breaks w q p = at_if (gives_up p && not (is_cps w.mode)) q CpsInNative ++ (at_if (is_detached w.mode && not (is_closed p)) q NotClosed
    ++ (at_if (is_rt p && not (is_event w.dialect)) q RtCall ++ at_if (gives_up p && is_event w.dialect) q CpsForm))

-- a function called by its name
abbrev pub function_breaks : Where → Place → Mode → Broken
function_breaks w q mode = at_if (is_cps mode && not (is_cps w.mode)) q CpsInNative ++ at_if (is_detached w.mode && not (is_detached mode)) q NotClosed

-- what a pointer to a function is called by
abbrev pub code_callee : Option Ty → Callee
code_callee (Some (TyCode r ps)) = Takes (map (λ t. Of t) (list_of_tys ps)) r
code_callee o = NoCallee

-- what the name of a call stands for, and so what it is called by
abbrev pub unmeant_callee : Scope → Option Primitive → LExprs → Callee
unmeant_callee s None es = NoCallee
unmeant_callee s (Some p) es = Takes (wants s p es) (gives p)

abbrev pub named_callee : Where → LExpr → LExprs → Meant → Option Primitive → Callee
named_callee w f es (AFunction mode r ps) o = Takes (map (λ t. Of t) ps) r
named_callee w f es NotMeant o = unmeant_callee w.scope o es
named_callee w f es m o = code_callee (used_of (typed_at w f))

abbrev pub callee : Where → LExpr → LExprs → Callee
callee w (LNamed x) es = named_callee w (LNamed x) es (meant w.scope x.text) (primitive_named x.text)
callee w f es = code_callee (used_of (typed_at w f))

-- what is called has a type, and is no function
abbrev pub is_code : Option Ty → Bool
is_code (Some (TyCode r ps)) = true
is_code o = false

abbrev pub no_code : Option Typed → Place → Broken
no_code None q = []
no_code (Some d) q = at_if (not (is_code (used d))) q Disagree

-- a call by a pointer, whose parts break these
abbrev pub pointer_breaks : Where → LExpr → Broken → Broken
pointer_breaks w f parts = parts ++ (at_if (is_detached w.mode) (first f) NotClosed ++ no_code (typed_at w f) (first f))

-- what is called, where it is a name
abbrev pub unmeant_breaks : Where → Place → Option Primitive → Broken
unmeant_breaks w q None = (q, Undeclared) ∷ []
unmeant_breaks w q (Some p) = primitive_breaks w q p

abbrev pub named_breaks : Where → LExpr → Place → Broken → Meant → Option Primitive → Broken
named_breaks w f q parts (AFunction mode r ps) o = function_breaks w q mode
named_breaks w f q parts NotMeant o = unmeant_breaks w q o
named_breaks w f q parts m o = pointer_breaks w f parts

-- more or fewer arguments than are wanted
abbrev pub number_breaks : Callee → LExprs → Place → Broken
number_breaks NoCallee es q = []
number_breaks (Takes wants result) es q = at_if (not (length (count es) == length wants)) q WrongNumber

abbrev pub wanted : Callee → List Wanted
wanted NoCallee = []
wanted (Takes ws r) = ws

abbrev pub is_callee : Callee → Bool
is_callee NoCallee = false
is_callee (Takes ws r) = true

abbrev pub is_integer_used : Option Ty → Bool
is_integer_used None = false
is_integer_used (Some t) = is_integer t

abbrev pub is_function : Meant → Bool
is_function (AFunction mode r ps) = true
is_function m = false

abbrev pub is_function_name : Scope → LExpr → Bool
is_function_name s (LNamed x) = is_function (meant s x.text)
is_function_name s e = false

-- an argument that has a type is as it is wanted
abbrev pub suits : Scope → Wanted → LExpr → Typed → Bool
suits s Integer e d = is_integer_used (used d)
suits s (Of t) e d = takes_typed t (bare_expr e) d
suits s (Callback t) e d = is_function_name s e && takes_typed t (bare_expr e) d
suits s String e d = false
suits s ForSection e d = is_callee (section_of s (Some e))
suits s Anything e d = true

abbrev pub suit_breaks : Scope → Wanted → LExpr → Option Typed → Broken
suit_breaks s wanted e None = []
suit_breaks s wanted e (Some d) = at_if (not (suits s wanted e d)) (first e) Disagree

abbrev pub result : Callee → Option Ty
result NoCallee = None
result (Takes wants r) = Some r
