-- Which variables of a frame are boxes.
use Rattle.std.specs.Prelude.{◌≡◌, ℕ, true, List, length, slice_get, Some}
use Rattle.cpc_tree.specs.Lists.{holds_number}
use Rattle.cpc_tree.specs.Registers.{variables}
use Rattle.cpc_tree.specs.Syntax.{Function, Program}
use Rattle.cpc_meaning.specs.Eval.{Slot, Boxed}
use Rattle.cpc_forms.specs.Flow.{Place}
use Rattle.cpc_convert_routines.specs.Routines.{routine_of, closure_of}

-- a frame has a slot for each variable of its function, and only variables that the owner keeps are boxes
pub record KeepsBoxes (p : Program) (f : Function) (l : Place) (slots : List Slot) : Type 0 where
  pub number : length slots ≡ length (variables f)
  pub kept : (k b : ℕ) → slice_get slots k ≡ Some (Boxed b) → holds_number (closure_of (routine_of p f) l) k ≡ true
