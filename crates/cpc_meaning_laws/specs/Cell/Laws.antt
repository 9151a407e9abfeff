-- How many live cells calls and steps leave.
use Rattle.std.specs.Prelude.{◌≡◌, ◌+◌, Bool, List, Option, Some}
use Rattle.cpc_base.specs.Bytes.{Text}
use Rattle.cpc_tree.specs.Syntax.{Ty, Function, Program}
use Rattle.cpc_tree.specs.Typing.{function_named}
use Rattle.cpc_store.specs.Store.{Value, Store, store_cells}
use Rattle.cpc_meaning.specs.Act.{Stood, GoesOn, act}
use Rattle.cpc_meaning.specs.Answer.{Gives}
use Rattle.cpc_meaning.specs.Eval.{Slot, Context}
use Rattle.cpc_meaning.specs.Events.{Callback, callbacks_of}
use Rattle.cpc_meaning.specs.Machine.{State, runs, try_step}
use Rattle.cpc_meaning.specs.Plain.{Form, Stack}
use Rattle.cpc_meaning.specs.Runs.{slots_registers, live_cells}
use Rattle.cpc_meaning.specs.Slots.{call_slots, free_slots}
use Rattle.cpc_meaning_laws.specs.Cell.Cells.{call_cells, slots_cells, step_cells}

-- a call takes the cells of its variables
abbrev pub CallTakes : Type 0
CallTakes = (p : Program) (f : Function) (vs : List Value) (s t : Store) (slots : List Slot) → call_slots p f vs s ≡ Gives (slots, t)
    → store_cells t + slots_registers slots ≡ store_cells s + call_cells p f

-- a call that is left gives its cells back
abbrev pub LeavingGivesBack : Type 0
LeavingGivesBack = (slots : List Slot) (s t : Store) → free_slots slots s ≡ Gives t → store_cells t + slots_cells s slots ≡ store_cells s + slots_registers slots

-- a step in which control goes on leaves as many cells in blocks, and as many registers
abbrev pub GoingOnKeeps : Type 0
GoingOnKeeps = (c : Context) (result : Ty) (o : Option Value) (stood : Stood) (h : Bool) (t : Store) (slots : List Slot) → act c result o stood ≡ Gives (GoesOn h t slots)
    → (store_cells t ≡ store_cells c.store) × (slots_registers slots ≡ slots_registers c.slots)

-- a step of the event machine in which code runs leaves what is foretold, whatever its positions are
abbrev pub StepsLeave : (P : Type 0) → Type 0
StepsLeave P = (p : Form P) (s t : State P Callback) (k : Stack P) → s.running ≡ Some k → try_step (callbacks_of p) s ≡ Some t → step_cells p s.store k ≡ Some (live_cells t)

-- a function that the loop takes up adds the cells of its call
abbrev pub TakingAdds : (P T : Type 0) → Type 0
TakingAdds P T = (p : Form P) (f : Text) (g : Function) (vs : List Value) (s t : State P T) → function_named p.program f ≡ Some g → runs p f vs s ≡ Gives t
    → live_cells t ≡ store_cells s.store + call_cells p.program g
