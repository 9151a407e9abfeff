-- The laws of native and detached functions, as statements.
use Rattle.std.specs.Prelude.{◌≡◌, true, [], Some}
use Rattle.cpc_base.specs.Bytes.{Text}
use Rattle.cpc_store.specs.Store.{empty_store}
use Rattle.cpc_tree.specs.Syntax.{Function, Program}
use Rattle.cpc_tree.specs.Typing.{function_named}
use Rattle.cpc_meaning.specs.Start.{globals, make_globals}
use Rattle.cpc_convert_image_laws.specs.Held.{beside}
use Rattle.cpc_convert_routines.specs.Kept.{kept_function}
use Rattle.cpc_chains_event.specs.Converted.{converted}
use Rattle.cpc_convert_routines.specs.Named.{IsNamed, IsKept}
use Rattle.cpc_lifted_laws.specs.Accepted.Names.{HasNames}
use Rattle.cpc_lifted_laws.specs.Native.Convertible.{Convertible}
use Rattle.cpc_lifted_laws.specs.Native.Instance.{is_whole}

-- a native or detached function, and it in the event program, found by the same name
pub record IsWhole (p : Program) (x : Text) : Type 0 where
  pub function : Function
  pub named : function_named p x ≡ Some function
  pub kept : IsKept p function
  pub called : function.called ≡ x
  pub stays : function_named (converted p) x ≡ Some (kept_function function)

-- each name of such a function finds it in both
abbrev pub WholesAreFound : Type 0
WholesAreFound = (p : Program) → HasNames p → IsNamed p → (x : Text) → is_whole p x ≡ true → IsWhole p x

-- the globals of the event program are those of the program
abbrev pub GlobalsStay : Type 0
GlobalsStay = (p : Program) → Convertible p → globals (make_globals (converted p) (converted p) empty_store) ≡ beside [] (globals (make_globals p p empty_store))
