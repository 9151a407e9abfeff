-- The tables of the functions that items define.
use Rattle.std.specs.Prelude.{◌≡◌, ℕ, List, length, get_or, slice_get, Option, Some, None}
use Rattle.cpc_tree.specs.declared.program.Function.{Function}
use Rattle.cpc_tree.specs.declared.program.Item.{Item}
use Rattle.cpc_tree.specs.declared.program.Item.TheVariants as I
use Rattle.cpc_eval_locals.specs.declared.locals.FunctionTable.{FunctionTable}
use Rattle.cpc_eval_locals.specs.Tabled.{IsFunctionTable}

-- the function that an item defines
abbrev pub function_defined : Item → Option Function
function_defined (I.Function f) = Some f
function_defined _ = None

-- the table of the function that an item defines, if it defines one
abbrev pub IsItemTable : Item → Option FunctionTable → Type 0
IsItemTable (I.Function f) (Some t) = IsFunctionTable f t
IsItemTable (I.Function f) None = ⊥
IsItemTable _ o = o ≡ None

-- of each of these items
pub record AreFunctionTables (xs : List Item) (rows : List (Option FunctionTable)) : Type 0 where
  pub even : length rows ≡ length xs
  pub each : (k : ℕ) (x : Item) → slice_get xs k ≡ Some x → IsItemTable x (get_or rows k None)
