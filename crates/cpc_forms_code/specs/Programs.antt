-- The cps functions of a program, and the texts of its names.
use Rattle.std.specs.Prelude.{◌≡◌, ℕ, Bool, true, false, List, [], ◌∷◌, map, slice_get, Some}
use Rattle.cpc_tree.specs.Erase.{Names, item_of}
use Rattle.cpc_tree.specs.Syntax as S
use Rattle.cpc_tree.specs.declared.program.Function.{Function}
use Rattle.cpc_tree.specs.declared.program.Item.{Item}
use Rattle.cpc_tree.specs.declared.program.Item.TheVariants as I
use Rattle.cpc_tree.specs.declared.program.Program.{Program}
use Rattle.cpc_meaning.specs.Threads.{is_cps_mode}
use Rattle.cpc_eval_variables.specs.Apart.{Spells}
use Rattle.cpc_eval_variables.specs.Told.{IsTold}

-- a function before others, where it is a cps function
abbrev pub function_if : Bool → Function → List Function → List Function
function_if true f rest = f ∷ rest
function_if false f rest = rest

-- the cps functions among items, in order
abbrev pub cps_functions : List Item → List Function
cps_functions [] = []
cps_functions (I.Function f ∷ items) = function_if (is_cps_mode f.mode) f (cps_functions items)
cps_functions (_ ∷ items) = cps_functions items

-- the program, by the texts of its names
abbrev pub program_by : Names → Program → S.Program
program_by names p = map (item_of names) p.items.items

-- the texts tell the names of a program, as those of its table do, and no name has the text of a function's parameter without a name
pub record IsSpelling (names : Names) (p : Program) : Type 0 where
  pub spells : Spells p.names names
  pub told : (k : ℕ) (f : Function) → slice_get p.items.items k ≡ Some (I.Function f) → IsTold names f.parameters.items

-- there are such texts; so it is of each program that is accepted
abbrev pub IsSpeakable : Program → Type 0
IsSpeakable p = ∥ ((names : Names) × IsSpelling names p) ∥₁

-- the same of one function
pub record IsSpelled (names : Names) (p : Program) (f : Function) : Type 0 where
  pub spells : Spells p.names names
  pub told : IsTold names f.parameters.items
