-- What tables say of a list of items.
use Rattle.std.specs.Prelude.{◌≡◌, ℕ, List, take, length, get_or, slice_get, Some}
use Rattle.std.specs.List.{sum_by}
use Rattle.cpc_tree.specs.declared.program.Item.{Item}
use Rattle.cpc_eval_index.specs.Bodies.{AreFunctionTables}
use Rattle.cpc_eval_index.specs.Ends.{inner_place, end_by}
use Rattle.cpc_eval_index.specs.Offsets.{AreOffsets}
use Rattle.cpc_eval_index.specs.Placed.{globals_in}
use Rattle.cpc_types_structs.specs.Declares.{AreAllDeclared}
use Rattle.cpc_eval_index.specs.declared.index.ProgramTable.{ProgramTable}
use Rattle.cpc_eval_index.specs.declared.tables.Tables.{Tables}

-- how many globals come before the k-th of these items
abbrev pub globals_before : List Item → ℕ → ℕ
globals_before xs k = sum_by globals_in (take k xs)

-- the tables of a list of items
pub record AreTables (xs : List Item) (t : Tables) : Type 0 where
  pub counted : t.count ≡ sum_by globals_in xs
  pub even : length t.globals.items ≡ length xs
  pub before : (k : ℕ) (x : Item) → slice_get xs k ≡ Some x → get_or t.globals.items k 0 ≡ globals_before xs k
  pub ends : length t.ends.items ≡ length xs
  pub ended : (k : ℕ) (x : Item) → slice_get xs k ≡ Some x → get_or t.ends.items k k ≡ end_by t.ends.items k (inner_place (take k xs) x)

-- the table of a program of these items: what is told of their places, what they declare, the offsets of the fields of their structs, and
-- the tables of their functions
pub record IsProgramTable (xs : List Item) (t : ProgramTable) : Type 0 where
  pub items : AreTables xs t.items
  pub declared : AreAllDeclared xs t.declared
  pub offsets : AreOffsets xs t.offsets
  pub functions : AreFunctionTables xs t.functions.items
