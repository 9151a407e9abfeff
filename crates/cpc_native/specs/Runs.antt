-- Programs of which it is said how they run, and the texts of their names.
use Rattle.std.specs.Prelude.{◌≡◌, ℕ, true, false, [], slice_get, Some, None, bytes_eq}
use Rattle.cpc_base.specs.Bytes.{Text}
use Rattle.cpc_base.specs.declared.names.Name.{Name}
use Rattle.cpc_tree.specs.Erase.{Names, Table}
use Rattle.cpc_tree.specs.Syntax.{Parameter, Function, Program}
use Rattle.cpc_tree.specs.Typing.{function_named}
use Rattle.cpc_check_rules.specs.Apart.{Spells}
use Rattle.cpc_eval.specs.Numbers.{ProgramNumbers}
use Rattle.cpc_native_builtins.specs.Served.{is_served_program}

-- no name has the empty text, where a parameter of the function has no name
pub record ToldFromUnnamed (names : Names) (f : Function) : Type 0 where
  pub each : (k : ℕ) (p : Parameter) → slice_get f.parameters k ≡ Some p → p.called ≡ None → (x : Name) → bytes_eq [] (names x) ≡ false

-- a program that asks only for what the loop answers and whose literals are numbers of their kinds, with texts by which its names are told
pub record Runs (names : Names) (table : Table) (p : Program) : Type 0 where
  pub spells : Spells table names
  pub told : (x : Text) (f : Function) → function_named p x ≡ Some f → ToldFromUnnamed names f
  pub served : is_served_program p ≡ true
  pub numbers : ProgramNumbers p
