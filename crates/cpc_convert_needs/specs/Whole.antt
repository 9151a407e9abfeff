-- What has to be known of a lifted function whose pieces are made, beside what its lines ask.
use Rattle.std.specs.Prelude.{◌≡◌, ◌<◌, ℕ, suc, true, List, [], map, length, get_or, All, Vec}
use Rattle.std.specs.Global.{Global}
use Rattle.cpc_tree.specs.Erase.{Names}
use Rattle.cpc_tree.specs.Registers.{variables}
use Rattle.cpc_tree.specs.Syntax.{Program}
use Rattle.cpc_forms.specs.Flow.{Place, Start}
use Rattle.cpc_forms_code.specs.declared.lifted.LiftedFunction.{LiftedFunction}
use Rattle.cpc_lift_laws.specs.Search.{closure}
use Rattle.cpc_meaning.specs.Threads.{is_cps_mode}
use Rattle.cpc_convert_rows.specs.Routines.{Routine, owner_number, keeper, closure_of}
use Rattle.cpc_convert_rows.specs.Rows.{is_own}
use Rattle.cpc_convert_names.specs.Called.{function_in, variables_in, nodes_in}
use Rattle.cpc_convert_rows.specs.Steps.{IsOf}

-- the closures of the owners of a function
abbrev pub rows_of : LiftedFunction → List (List ℕ)
rows_of l = map (λ (row : Vec ℕ Global). row.items) l.closures.items

-- a function is a cps function
abbrev pub IsCps : LiftedFunction → Type 0
IsCps l = is_cps_mode (function_in l).mode ≡ true

-- a routine is that of the split function, with the closures that were found; what its frames keep are variables, and its owners' nodes
-- are nodes of it
pub record IsComplete (from : Names) (p : Program) (l : LiftedFunction) (r : Routine) : Type 0 where
  pub of : IsOf from l.split.now r
  pub long : length (rows_of l) ≡ suc (length (nodes_in l))
  pub closures : (k : ℕ) → k < length (rows_of l) → get_or (rows_of l) k [] ≡ closure r.ways r.uses (length (variables r.function)) k
  pub keeps : owner_number (keeper r.split Start) < length (rows_of l)
  pub owned : (place : Place) (n : ℕ) → is_own r.split place n ≡ true → n < length (nodes_in l)
  pub kept : (place : Place) → All (λ k. k < length (variables_in l)) (closure_of r place)
