-- Calls, in the parts in which the code has them.
use Rattle.std.specs.Prelude.{◌≡◌, Bool, false, List, Option, Some, None, if◌then◌else◌, Result}
use Rattle.cpc_base.specs.Bytes.{Text}
use Rattle.cpc_base.specs.declared.names.Name.{Name}
use Rattle.cpc_base.specs.declared.stop.Stop.{Stop}
use Rattle.cpc_num.specs.declared.kinds.Fault.{Fault}
use Rattle.cpc_num.specs.declared.kinds.Fault.TheVariants as F
use Rattle.std.specs.Global.{Vec}
use Rattle.cpc_tree.specs.Erase.{Names}
use Rattle.cpc_tree.specs.Syntax.{Ty, ENamed, Exprs, Function, Program}
use Rattle.cpc_tree.specs.Typing.{NotMeant, function_named, same_type, function_type, parameter_types, code_parameters}
use Rattle.cpc_tree.specs.Primitives.{primitive_named}
use Rattle.cpc_meaning.specs.Act as M
use Rattle.cpc_meaning.specs.Requests.{Host}
use Rattle.cpc_tree.specs.declared.program.Mode.{Mode}
use Rattle.cpc_tree.specs.declared.program.Mode.TheVariants.{Extern}
use Rattle.cpc_store.specs.Store.{Value, Unset, Null, Code}
use Rattle.cpc_store.specs.declared.values.Value as V
use Rattle.cpc_meaning.specs.Answer.{Answer, Gives, Faults, NoAnswer, ◌>>=◌, needed}
use Rattle.cpc_meaning.specs.Eval as E
use Rattle.cpc_eval_values.specs.Shown.{values_of}
use Rattle.cpc_native_plans.specs.Stops.{seen_as}
use Rattle.cpc_native_plans.specs.Rows.{passed, longs}

-- whether there is a type, which is this one
abbrev pub is_same : Option Ty → Ty → Bool
is_same None t = false
is_same (Some u) t = same_type u t

-- whether there is a function, of this type
abbrev pub is_of_type : Ty → Option Function → Bool
is_of_type t None = false
is_of_type t (Some f) = same_type t (function_type f.result (parameter_types f))

-- the name of the function that a value of a type calls
abbrev pub code_called : Program → Ty → Value → Answer Text
code_called p t Unset = Faults F.Unset
code_called p t Null = Faults F.Null
code_called p t (Code x) = if is_of_type t (function_named p x) then Gives x else Faults F.Code
code_called p t _ = NoAnswer

-- a call of this value of a type: the name of the function, and the arguments
abbrev pub called_with : E.Context → Ty → Value → Exprs → Answer (Text × List Value)
called_with c t v es = do
  ws ← passed c (code_parameters t) es
  x ← code_called c.program t v
  Gives (x, ws)

-- the function of a name, entered
abbrev pub entering : E.Context → Text × List Value → Answer M.Act
entering c q = do
  f ← needed (function_named c.program q.0)
  Gives (M.Enters f q.1)

-- a call of this value of a type
abbrev pub calls_code : E.Context → Ty → Value → Exprs → Answer M.Act
calls_code c t v es = called_with c t v es >>= entering c

abbrev pub call_shown : Names → Result (Name × Vec V.Value) (Stop Fault) → Result (Text × List Value) (Stop Fault)
call_shown names r = seen_as (λ (q : Name × Vec V.Value). (names q.0, values_of names q.1.items)) r

-- a call of a function, or of the value of a name where there is none
abbrev pub calls_if : E.Context → Text → Exprs → Option Function → Answer M.Act
calls_if c x es (Some f) = M.calls c f es
calls_if c x es None = M.calls_value c (ENamed x) es

-- a call of a name that stands for a function
abbrev pub calls_known : E.Context → Text → Exprs → Answer M.Act
calls_known c x es = calls_if c x es (function_named c.program x)

-- a call of a function of the host
abbrev pub calls_host : E.Context → Text → Exprs → Answer M.Act
calls_host c x es = do
  ws ← longs c es
  M.asks (Host x) ws

-- a call of a name that stands for a function in this mode
abbrev pub calls_moded : E.Context → Text → Exprs → Mode → Answer M.Act
calls_moded c x es Extern = calls_host c x es
calls_moded c x es mode = calls_known c x es

-- a call of a name that stands for no variable and no function
abbrev pub calls_unmeant : E.Context → Text → Exprs → Answer M.Act
calls_unmeant c x es = M.calls_named c x es NotMeant (primitive_named x) (function_named c.program x)

-- the name of the function that is called, if the call comes to it
abbrev pub IsNamed : Option Text → Answer (Text × List Value) → Type 0
IsNamed o (Gives q) = o ≡ Some q.0
IsNamed o (Faults fault) = o ≡ None
IsNamed o NoAnswer = Unit {0}
