-- What the pieces of a function ask of it, and what is had of each function of an accepted program, as statements.
use Rattle.std.specs.Prelude.{◌≡◌, ◌<◌, ◌≤◌, ◌^◌, ℕ, slice_get, Some}
use Rattle.cpc_tree.specs.Syntax.{Exprs, Variable, Function, FunctionItem, Program}
use Rattle.cpc_tree.specs.Registers.{variables}
use Rattle.cpc_tree.specs.Typing.{Scope, size, parameter_types}
use Rattle.cpc_check_laws.specs.Sound.Typed.{AllGet}
use Rattle.cpc_convert_common.specs.Members.{Has}
use Rattle.cpc_forms.specs.Flow.{Place}
use Rattle.cpc_convert_routines.specs.Addressed.{AddressesAreBoxes, ResultsAreScalar}
use Rattle.cpc_convert_routines.specs.Given.{ParametersAreScalar}
use Rattle.cpc_convert_routines.specs.Routines.{routine_of}
use Rattle.cpc_lifted_laws.specs.Accepted.Accepted.{OfAccepted}
use Rattle.cpc_lifted_laws.specs.Accepted.Known.{AreScalar}

-- each variable has cells: one at least, and 2^16 at most
abbrev pub VariablesHaveCells : Program → Function → Type 0
VariablesHaveCells p f = (k : ℕ) (x : Variable) → slice_get (variables f) k ≡ Some x → (m : ℕ) × (size p x.type ≡ Some m) × (0 < m) × (m ≤ 2 ^ 16)

-- `&` is applied to boxes, globals and functions alone; a function that gives a value gives a scalar one; its variables have cells; and where
-- it is called at all, its parameters are scalar
pub record SuitsPieces (p : Program) (f : Function) : Type 0 where
  pub addresses : AddressesAreBoxes p f
  pub results : (l : Place) → ResultsAreScalar (routine_of p f) l
  pub cells : VariablesHaveCells p f
  pub passed : (scope : Scope) (es : Exprs) → AllGet p scope (parameter_types f) es → AreScalar (parameter_types f)
  pub parameters : AreScalar (parameter_types f) → ParametersAreScalar f

-- so it is of each function of an accepted program
abbrev pub AcceptedSuitsPieces : Type 0
AcceptedSuitsPieces = OfAccepted (λ p. (f : Function) → Has (FunctionItem f) p → SuitsPieces p f)
