-- What is asked of a program, so that its native code runs alike in its event program: each accepted program is so.
use Rattle.std.specs.Prelude.{◌≡◌, true, List, Option, Some}
use Rattle.cpc_base.specs.Bytes.{Text}
use Rattle.cpc_check_rules.specs.Operators.{is_detached}
use Rattle.cpc_tree.specs.Points.{Path, found}
use Rattle.cpc_tree.specs.Registers.{scope_in_function}
use Rattle.cpc_tree.specs.Syntax.{Ty, Expr, Function, GlobalItem, Program}
use Rattle.cpc_tree.specs.Typing.{cells, function_named}
use Rattle.cpc_convert_common.specs.Members.{Has}
use Rattle.cpc_meaning.specs.Names.{AllNamesFound}
use Rattle.cpc_convert_routines.specs.Named.{IsNamed}
use Rattle.cpc_lifted_laws.specs.Accepted.Functions.{IsShown, HasMain}
use Rattle.cpc_lifted_laws.specs.Accepted.Names.{HasNames}
use Rattle.cpc_lifted_laws.specs.Accepted.Points.{PositionsKnown}
use Rattle.cpc_lifted_laws.specs.Native.Instance.{ClosedName}

-- detached functions name no other functions than detached ones
abbrev pub DetachedCloses : Program → Type 0
DetachedCloses p = (x : Text) (f : Function) → function_named p x ≡ Some f → is_detached f.mode ≡ true → (path : Path) → AllNamesFound (ClosedName p (scope_in_function f path)) (found f.body path)

-- the types of globals are complete
abbrev pub GlobalsComplete : Program → Type 0
GlobalsComplete p = (x : Text) (t : Ty) (start : Option Expr) → Has (GlobalItem x t start) p → (ts : List Ty) × (cells p t ≡ Some ts)

-- all of it
pub record Convertible (p : Program) : Type 0 where
  pub names : HasNames p
  pub named : IsNamed p
  pub positions : PositionsKnown p
  pub shown : IsShown p
  pub main : HasMain p
  pub closes : DetachedCloses p
  pub globals : GlobalsComplete p
