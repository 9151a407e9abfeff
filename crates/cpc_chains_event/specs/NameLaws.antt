-- What the names of an event program stand for, as statements.
use Rattle.std.specs.Prelude.{◌≡◌, false, [], ◌∷◌, map, Some}
use Rattle.cpc_base.specs.Bytes.{Text}
use Rattle.cpc_num.specs.declared.kinds.Kind.TheVariants.{Int}
use Rattle.cpc_tree.specs.declared.program.Mode.TheVariants.{Native}
use Rattle.cpc_tree.specs.Syntax.{TyVoid, TyInt, Function, Program}
use Rattle.cpc_tree.specs.Typing.{AFunction, item_named, function_named, parameter_type}
use Rattle.cpc_meaning.specs.Start.{main_name}
use Rattle.cpc_convert_common.specs.Marks.{has_marks}
use Rattle.cpc_convert_common.specs.Converted.{spawner_name}
use Rattle.cpc_convert_image_laws.specs.InPlace.{is_cps}
use Rattle.cpc_forms.specs.Flow.{Place}
use Rattle.cpc_chains_store_laws.specs.Driver.{drive_name, drive_function, any_pointer}
use Rattle.cpc_convert_routines.specs.Names.{piece_name}
use Rattle.cpc_convert_routines.specs.Routines.{routine_of, passed}
use Rattle.cpc_chains_event.specs.Pieces.{parameter_of, piece_function, spawner_function}
use Rattle.cpc_convert_routines.specs.Kept.{kept_function}
use Rattle.cpc_chains_event.specs.Converted.{main_function, converted}
use Rattle.cpc_convert_routines.specs.Named.{IsOwner, IsCps, IsKept, IsNamed}

-- ---- functions

-- each name that is made finds what is made, and each name of a function that stays finds it, each spawn in it a call of the spawner
pub record FindsFunctions (p : Program) : Type 0 where
  pub pieces : (f : Function) → IsCps p f → (l : Place) → IsOwner (routine_of p f) l → function_named (converted p) (piece_name f.called l) ≡ Some (piece_function p (routine_of p f) l)
  pub spawners : (f : Function) → IsCps p f → function_named (converted p) (spawner_name f.called) ≡ Some (spawner_function f)
  pub driver : (f : Function) → IsCps p f → function_named (converted p) drive_name ≡ Some drive_function
  pub kept : (f : Function) → IsKept p f → function_named (converted p) f.called ≡ Some (kept_function f)
  pub main : (f : Function) → IsCps p f → f.called ≡ main_name → function_named (converted p) main_name ≡ Some main_function

abbrev pub FunctionsAreFound : Type 0
FunctionsAreFound = (p : Program) → IsNamed p → FindsFunctions p

-- ---- names

-- each name that is made stands for what is made, and each name of the source that is no cps function's for what it stood for
pub record MeansItems (p : Program) : Type 0 where
  pub pieces : (f : Function) → IsCps p f → (l : Place) → IsOwner (routine_of p f) l → item_named 0 (converted p) (piece_name f.called l) ≡ AFunction Native any_pointer (any_pointer ∷ [])
  pub spawners : (f : Function) → IsCps p f → item_named 0 (converted p) (spawner_name f.called) ≡ AFunction Native TyVoid (map parameter_type (map parameter_of (passed f)))
  pub driver : (f : Function) → IsCps p f → item_named 0 (converted p) drive_name ≡ AFunction Native TyVoid (any_pointer ∷ TyInt Int ∷ [])
  pub kept : (x : Text) → has_marks x ≡ false → is_cps (item_named 0 p x) ≡ false → item_named 0 (converted p) x ≡ item_named 0 p x

abbrev pub ItemsAreMeant : Type 0
ItemsAreMeant = (p : Program) → IsNamed p → MeansItems p
