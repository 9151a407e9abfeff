-- Values that are given to a call: they fit its parameters, are held, or one faults.
use Rattle.std.specs.Prelude.{◌≡◌, List, [], ◌∷◌, ℕ, ◌<◌, Bool, true, false, length, slice_get, Some}
use Rattle.cpc_num.specs.declared.kinds.Fault.{Fault}
use Rattle.cpc_tree.specs.Syntax.{Ty, Expr, Exprs, NoExpr, AndExpr, Program, Variable, Function}
use Rattle.cpc_tree.specs.Typing.{Scope, is_scalar}
use Rattle.cpc_store.specs.declared.values.Class.TheVariants.{Frame}
use Rattle.cpc_store.specs.Store.{Value, Store, alloc}
use Rattle.cpc_meaning.specs.Answer.{Gives, Faults}
use Rattle.cpc_meaning.specs.Eval.{Slot, value, assigned, Fits}
use Rattle.cpc_convert_flat_laws.specs.Locals.{at, Holds}
use Rattle.cpc_tree.specs.Registers.{variables}

-- these expressions have values, whatever a new frame holds, which are assigned to these types
pub data GivesAll (q : Program) (scope : Scope) (slots : List Slot) (s : Store) : List Ty → Exprs → List Value → Type 0 where
  NoneGiven : GivesAll q scope slots s [] NoExpr []
  OneGiven : (t : Ty) (u v : Value) (ts : List Ty) (e : Expr) (es : Exprs) (vs : List Value) → ((cells : List Value) → value (at q scope slots (alloc Frame cells s)) e ≡ Gives u) → assigned t u ≡ Gives v
      → GivesAll q scope slots s ts es vs → GivesAll q scope slots s (t ∷ ts) (AndExpr e es) (v ∷ vs)

-- the first of them that has none faults
pub data OneFaults (q : Program) (scope : Scope) (slots : List Slot) (s : Store) (fault : Fault) : List Ty → Exprs → Type 0 where
  ThisFaults : (t : Ty) (ts : List Ty) (e : Expr) (es : Exprs) → ((cells : List Value) → value (at q scope slots (alloc Frame cells s)) e ≡ Faults fault) → OneFaults q scope slots s fault (t ∷ ts) (AndExpr e es)
  NextFaults : (t : Ty) (u v : Value) (ts : List Ty) (e : Expr) (es : Exprs) → ((cells : List Value) → value (at q scope slots (alloc Frame cells s)) e ≡ Gives u) → assigned t u ≡ Gives v
      → OneFaults q scope slots s fault ts es → OneFaults q scope slots s fault (t ∷ ts) (AndExpr e es)

-- values of the types of these variables
pub data AllFit : List Variable → List Value → Type 0 where
  NoneFit : AllFit [] []
  OneFits : (x : Variable) (v : Value) (xs : List Variable) (vs : List Value) → Fits x.type v → AllFit xs vs → AllFit (x ∷ xs) (v ∷ vs)

-- these variables hold such values
pub data AllHold (q : Program) (scope : Scope) (slots : List Slot) : List Variable → List Value → Type 0 where
  NoneHold : AllHold q scope slots [] []
  OneHolds : (x : Variable) (v : Value) (xs : List Variable) (vs : List Value) → Holds q scope slots x.called x.type v → Fits x.type v → AllHold q scope slots xs vs → AllHold q scope slots (x ∷ xs) (v ∷ vs)

-- a value before others, where there is one
abbrev pub value_before : Bool → Value → List Value → List Value
value_before true v vs = v ∷ vs
value_before false v vs = vs

-- each parameter is scalar
abbrev pub ParametersAreScalar : Function → Type 0
ParametersAreScalar f = (k : ℕ) (x : Variable) → k < length f.parameters → slice_get (variables f) k ≡ Some x → is_scalar x.type ≡ true
