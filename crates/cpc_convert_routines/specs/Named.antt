-- What is asked of the names of a program, and which functions and owners it has.
use Rattle.std.specs.Prelude.{◌≡◌, ◌<◌, ◌^◌, ℕ, true, false, length, map, slice_get, Some}
use Rattle.cpc_tree.specs.Syntax.{Variable, Function, Item, StructItem, GlobalItem, PrototypeItem, FunctionItem, Program}
use Rattle.cpc_tree.specs.Typing.{AFunction, item_named, function_named, parameter_type}
use Rattle.cpc_tree.specs.Registers.{variables}
use Rattle.cpc_meaning.specs.Threads.{is_cps_mode}
use Rattle.cpc_convert_common.specs.Marks.{has_marks}
use Rattle.cpc_convert_common.specs.Members.{Has}
use Rattle.cpc_forms.specs.Flow.{Place, Start, At}
use Rattle.cpc_convert_routines.specs.Routines.{Routine, routine_of}

-- a name of an item does not hold two underscores in a row
abbrev pub IsUnmarked : Item → Type 0
IsUnmarked (StructItem tag fs) = has_marks tag ≡ false
IsUnmarked (GlobalItem x t start) = has_marks x ≡ false
IsUnmarked (PrototypeItem mode f r ps) = has_marks f ≡ false
IsUnmarked (FunctionItem f) = has_marks f.called ≡ false

-- an owner of a function: its start, or a leader whose number can be spelled
pub data IsOwner (r : Routine) : Place → Type 0 where
  TheStart : IsOwner r Start
  ALeader : (n : ℕ) → Has n r.split.leaders → IsOwner r (At n)

-- a cps function of a program
pub record IsCps (p : Program) (f : Function) : Type 0 where
  pub has : Has (FunctionItem f) p
  pub mode : is_cps_mode f.mode ≡ true

-- a native or detached one
pub record IsKept (p : Program) (f : Function) : Type 0 where
  pub has : Has (FunctionItem f) p
  pub mode : is_cps_mode f.mode ≡ false

-- what the conversion asks of the names of a program: they are not marked, nor are those of variables, each function is found by its name, which means it, and the numbers of the leaders of cps functions can be told apart
pub record IsNamed (p : Program) : Type 0 where
  pub unmarked : (item : Item) → Has item p → IsUnmarked item
  pub found : (f : Function) → Has (FunctionItem f) p → function_named p f.called ≡ Some f
  pub meant : (f : Function) → Has (FunctionItem f) p → item_named 0 p f.called ≡ AFunction f.mode f.result (map parameter_type f.parameters)
  pub unmarked_variables : (f : Function) → Has (FunctionItem f) p → (k : ℕ) (x : Variable) → slice_get (variables f) k ≡ Some x → has_marks x.called ≡ false
  pub few : (f : Function) → Has (FunctionItem f) p → length (variables f) < 2 ^ 63
  pub small : (f : Function) → IsCps p f → (n : ℕ) → Has n (routine_of p f).split.leaders → n < 2 ^ 63
