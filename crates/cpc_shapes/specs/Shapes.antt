-- The parts of types.
use Rattle.std.specs.Prelude.{ℕ, Bool, true, false, Option, Some, None}
use Rattle.cpc_tree.specs.Syntax.{Ty, TyCondvar, TyCode, TyArray, Tys}
pub use Rattle.cpc_check_rules.specs.StmtRules.{is_void}

abbrev pub is_condvar : Ty → Bool
is_condvar TyCondvar = true
is_condvar _ = false

-- the elements of an array type, and how many there are
abbrev pub element : Ty → Option (Ty × ℕ)
element (TyArray t n) = Some (t, n)
element _ = None

-- the result and the parameters of a code type
abbrev pub code_parts : Ty → Option (Ty × Tys)
code_parts (TyCode r ps) = Some (r, ps)
code_parts _ = None
