-- The arguments of calls, in the parts in which the code has them.
use Rattle.std.specs.Prelude.{ℕ, List, ◌∷◌, ◌++◌, map, slice_get, Option, Some, None}
use Rattle.cpc_base.specs.Bytes.{Text}
use Rattle.cpc_base.specs.declared.names.Name.{Name}
use Rattle.cpc_tree.specs.Erase.{Names, type_of, parameter_of}
use Rattle.cpc_tree.specs.declared.program.Parameter.{Parameter}
use Rattle.cpc_tree.specs.Syntax.{Ty, TyCode, Expr, Exprs, Function}
use Rattle.cpc_tree.specs.Typing.{parameter_type, list_of_tys}
use Rattle.cpc_tree.specs.Primitives.{Primitive, Taken, callback_and_pointer}
use Rattle.cpc_store.specs.Store.{Value}
use Rattle.cpc_store.specs.declared.values.Value as V
use Rattle.cpc_store.specs.declared.values.Value.TheVariants as C
pub use Rattle.cpc_tree.specs.Syntax.{text_in}
use Rattle.cpc_meaning.specs.Answer.{Answer, Gives, ◌>>=◌, needed}
use Rattle.cpc_meaning.specs.Eval as E
use Rattle.cpc_meaning.specs.Requests.{arguments, takes, detach_takes, all_taken, all_long, byte_values}
use Rattle.cpc_native_plans.specs.declared.rows.Row.{Row}
use Rattle.cpc_native_plans.specs.declared.rows.Row.TheVariants as W

-- the types of the parameters of a function
abbrev pub parameter_list : Names → List Parameter → List Ty
parameter_list names ps = map parameter_type (map (parameter_of names) ps)

-- the types of parameters
abbrev pub row_types : Names → Row → List Ty
row_types names (W.Types ts) = map (type_of names) ts.now
row_types names (W.Parameters ps) = parameter_list names ps.now

-- what is made of a value by the n-th of a row
abbrev pub by_nth : {T : Type 0} → (T → Value → Answer Value) → List T → ℕ → Value → Answer Value
by_nth f ts n v = do
  t ← needed (slice_get ts n)
  f t v

-- the value of an argument, converted to the n-th of these types
abbrev pub passed_nth : E.Context → List Ty → ℕ → Expr → Answer Value
passed_nth c ts n e = do
  v ← E.value c e
  by_nth E.assigned ts n v

-- the values of arguments, converted to these types
abbrev pub passed : E.Context → List Ty → Exprs → Answer (List Value)
passed c ts es = do
  vs ← E.values c es
  arguments ts vs

-- the values of arguments, as they are taken
abbrev pub taken : E.Context → List Taken → Exprs → Answer (List Value)
taken c ts es = do
  vs ← E.values c es
  all_taken ts vs

-- the name of the function that a value is the code of
abbrev pub code_in : V.Value → Option Name
code_in (C.Code f) = Some f
code_in _ = None

-- the same of the third value
abbrev pub third_code : List V.Value → Option Name
third_code (callback ∷ pointer ∷ v ∷ vs) = code_in v
third_code _ = None

-- what `rt_detach` takes, by the function of the section
abbrev pub detached_with : Option Function → List Taken
detached_with f = callback_and_pointer ++ detach_takes f

-- the values of arguments as the host takes them
abbrev pub longs : E.Context → Exprs → Answer (List Value)
longs c es = do
  vs ← E.values c es
  all_long vs

-- the arguments of a primitive: the bytes of a string, or values
abbrev pub asked_with : E.Context → Primitive → Exprs → Option Text → Answer (List Value)
asked_with c prim es (Some bytes) = Gives (byte_values bytes)
asked_with c prim es None = do
  vs ← E.values c es
  all_taken (takes c.program prim vs) vs

-- the result and the parameters of the type of a code
abbrev pub signature_in : Ty → Option (Ty × List Ty)
signature_in (TyCode r ps) = Some (r, list_of_tys ps)
signature_in _ = None
