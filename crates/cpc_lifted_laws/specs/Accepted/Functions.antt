-- What is known of the functions of an accepted program, as statements: their names in faults, the variables in scope, and `main`.
use Rattle.std.specs.Prelude.{◌≡◌, ◌⊎◌, ℕ, true, false, [], slice_get, Some}
use Rattle.cpc_base.specs.Bytes.{Text}
use Rattle.cpc_num.specs.declared.kinds.Kind.TheVariants.{Int}
use Rattle.cpc_tree.specs.declared.program.Mode.TheVariants.{Native, Cps}
use Rattle.cpc_tree.specs.Registers.{variables}
use Rattle.cpc_tree.specs.Syntax.{Ty, TyInt, Function, Program}
use Rattle.cpc_tree.specs.Typing.{ALocal, named, function_named}
use Rattle.cpc_meaning.specs.Start.{before_underscores, main_name}
use Rattle.cpc_meaning.specs.Threads.{is_cps_mode, shown_in}
use Rattle.cpc_convert_common.specs.Converted.{marked}
use Rattle.cpc_forms.specs.Split.{Position, split_form}
use Rattle.cpc_lifted_laws.specs.Accepted.Accepted.{OfAccepted}

-- a name that means a variable at a position of a function is that of the variable of this number, of this type
abbrev pub ScopesMeanVariables : Type 0
ScopesMeanVariables =
    (p : Program) (x : Text) (f : Function) (a : Position) → function_named p x ≡ Some f
    → (y : Text) (k : ℕ) (t : Ty) → named p ((split_form p).code.scope x a) y ≡ ALocal k t → slice_get (variables f) k ≡ Some (record { called = y; type = t })

-- a fault names a native function, and nobody, as the event machine does, and a cps function as the event machine names whatever is made of it
pub record IsShown (p : Program) : Type 0 where
  pub native : (x : Text) (f : Function) → function_named p x ≡ Some f → is_cps_mode f.mode ≡ false → before_underscores x ≡ shown_in p x
  pub made : (x : Text) (f : Function) → function_named p x ≡ Some f → is_cps_mode f.mode ≡ true → (rest : Text) → before_underscores (marked x rest) ≡ shown_in p x
  pub nobody : before_underscores [] ≡ shown_in p []

abbrev pub AcceptedIsShown : Type 0
AcceptedIsShown = OfAccepted IsShown

-- `main` is native or cps, takes nothing and gives an int
pub record HasMain (p : Program) : Type 0 where
  pub function : Function
  pub named : function_named p main_name ≡ Some function
  pub mode : (function.mode ≡ Native) ⊎ (function.mode ≡ Cps)
  pub result : function.result ≡ TyInt Int
  pub parameters : function.parameters ≡ []

abbrev pub AcceptedHasMain : Type 0
AcceptedHasMain = OfAccepted HasMain
