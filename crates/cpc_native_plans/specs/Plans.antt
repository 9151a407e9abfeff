-- What is to be done, the arguments of a call not evaluated yet.
use Rattle.std.specs.Prelude.{◌≡◌, Bool, true, false, Some, Result, Ok, Err}
use Rattle.cpc_num.specs.declared.kinds.Fault.{Fault}
use Rattle.cpc_tree.specs.Erase.{Names, exprs_of, function_of}
use Rattle.cpc_tree.specs.Typing.{function_named}
use Rattle.cpc_store.specs.Seen.{seen, IsLawful}
use Rattle.cpc_meaning.specs.Answer.{Answer}
use Rattle.cpc_meaning.specs.Eval as E
use Rattle.cpc_meaning.specs.Act as M
use Rattle.cpc_eval_values.specs.Meets.{Meets}
use Rattle.cpc_eval_values.specs.Shown.{value_of}
use Rattle.cpc_eval.specs.Numbers.{AllNumbers}
use Rattle.cpc_eval.specs.Shapes.{shape_of}
use Rattle.cpc_eval.specs.Spots.{spot_of}
use Rattle.cpc_tree.specs.PrimitiveNames.{primitive_of}
use Rattle.cpc_native_builtins.specs.Served.{IsServedCall}
use Rattle.cpc_native_builtins.specs.declared.call.Call.{Call}
use Rattle.cpc_native_builtins.specs.declared.call.Call.TheVariants as C
use Rattle.cpc_tree.specs.Syntax.{Exprs}
use Rattle.cpc_native_plans.specs.Calls.{calls_code, calls_host}
use Rattle.cpc_native_plans.specs.Parts.{Stands, goes_on}
use Rattle.cpc_native_plans.specs.declared.plan.Plan.{Plan}
use Rattle.cpc_native_plans.specs.declared.plan.Plan.TheVariants as P

-- a request, its arguments to be evaluated
abbrev pub asks_for : Names → E.Context → Call → Exprs → Answer M.Act
asks_for names c (C.Builtin b) es = M.asks_with c (primitive_of b) es (M.puts_text (primitive_of b) es)
asks_for names c (C.Host x) es = calls_host c (names x) es

-- what a plan comes to
abbrev pub planned : Names → E.Context → Plan → Answer M.Act
planned names c (P.Passes h) = M.passes c h
planned names c (P.Writes spot v) = goes_on (M.write c (spot_of spot) (value_of names v))
planned names c (P.Calls v t es) = calls_code c (shape_of names t) (value_of names v) (exprs_of names es.now)
planned names c (P.Enters x f es) = M.calls c (function_of names f.now) (exprs_of names es.now)
planned names c (P.Leaves v) = M.leaves c (value_of names v)
planned names c (P.Asks call es) = asks_for names c call (exprs_of names es.now)

-- its function is the one of its name, and its arguments have numbers
abbrev pub IsSound : Names → E.Context → Plan → Type 0
IsSound names c (P.Calls v t es) = AllNumbers c.program (exprs_of names es.now)
IsSound names c (P.Enters x f es) = (Some (function_of names f.now) ≡ function_named c.program (names x)) × AllNumbers c.program (exprs_of names es.now)
IsSound names c (P.Asks call es) = AllNumbers c.program (exprs_of names es.now)
IsSound names c _ = Unit {0}

-- a plan that stands for an answer, or its fault
abbrev pub Lays : Names → E.Context → Result Plan Fault → Answer M.Act → Type 0
Lays names c (Ok plan) a = IsSound names c plan × Stands (planned names c plan) a
Lays names c (Err fault) a = Meets (Err fault) a

-- its values are lawful
abbrev pub IsLawfulPlan : Plan → Type 0
IsLawfulPlan (P.Writes spot v) = IsLawful (seen v)
IsLawfulPlan (P.Leaves v) = IsLawful (seen v)
IsLawfulPlan _ = Unit {0}

-- what it asks for is served
abbrev pub IsServedPlan : Plan → Type 0
IsServedPlan (P.Asks call es) = IsServedCall call
IsServedPlan _ = Unit {0}

-- control goes on, whatever is written
abbrev pub is_plain : Plan → Bool
is_plain (P.Passes h) = true
is_plain (P.Writes spot v) = true
is_plain _ = false

-- arguments are to be evaluated
abbrev pub is_call_plan : Plan → Bool
is_call_plan (P.Calls v t es) = true
is_call_plan (P.Enters x f es) = true
is_call_plan (P.Asks call es) = true
is_call_plan _ = false
