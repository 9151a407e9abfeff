-- The live cells that the next step of a machine leaves.
use Rattle.std.specs.Prelude.{◌≡◌, ℕ, ◌+◌, ◌-◌, ◌<◌, ◌≤◌, ◌^◌, min, Bool, true, false, List, [], ◌∷◌, Some, None}
use Rattle.cpc_tree.specs.Erase.{Names, function_of}
use Rattle.cpc_tree.specs.Syntax.{Program}
use Rattle.cpc_tree.specs.Points.{Point, Found}
use Rattle.cpc_store.specs.Store.{Store}
use Rattle.cpc_meaning.specs.Act.{target_of}
use Rattle.cpc_meaning.specs.Answer.{Gives}
use Rattle.cpc_meaning.specs.Eval.{Slot}
use Rattle.cpc_meaning.specs.Events.{Callback, callbacks}
use Rattle.cpc_meaning.specs.Machine.{State, try_step}
use Rattle.cpc_meaning.specs.Plain.{Form, Frame, Stack, Asks, plain, asking}
use Rattle.cpc_meaning.specs.Requests.{Asked, Builtin, Free, RtFrameFree, RtUnbox, Request}
use Rattle.cpc_meaning.specs.Runs.{live_cells}
use Rattle.cpc_meaning.specs.Slots.{free_slots}
use Rattle.cpc_eval_values.specs.Shown.{store_of}
use Rattle.cpc_eval_index.specs.Indexed.{items_of}
use Rattle.cpc_meaning_laws.specs.Pointer.Made.{IsMadeCode}
use Rattle.cpc_meaning_laws.specs.Cell.Cells.{call_cells, slots_cells}
use Rattle.cpc_native_changes.specs.declared.changes.Change.{Change}
use Rattle.cpc_native_changes.specs.declared.changes.Change.TheVariants as C
use Rattle.cpc_native.specs.declared.machine.Machine.{Machine}
use Rattle.cpc_native.specs.Stacks.{stack_of}
use Rattle.cpc_native.specs.Runs.{Runs}

-- a block is freed
abbrev pub frees : Asked → Bool
frees (Builtin Free) = true
frees (Builtin RtFrameFree) = true
frees (Builtin RtUnbox) = true
frees asked = false

-- a value that is asked for where the first frame stands goes nowhere
abbrev pub GoesNowhere : {P : Type 0} → Form P → List (Frame P) → Type 0
GoesNowhere p [] = Unit {0}
GoesNowhere p (frame ∷ below) = (f : Found) → asking (p.code.stood frame.function frame.point) ≡ Some f → target_of f ≡ Some None

-- where the code frees a block, nothing is to get a value of that; no program that breaks no rule asks otherwise
abbrev pub FreesAlone : {P : Type 0} → Form P → Store → Stack P → Type 0
FreesAlone p s k = (r : Request) → plain p s k ≡ Gives (Asks r) → frees r.asked ≡ true → GoesNowhere p k.frames

-- a state of the event machine in which this machine's code runs, with pointers into blocks that were made
pub record IsStateOf (names : Names) (m : Machine) (s : State Point Callback) : Type 0 where
  pub runs : Runs names m.texts.now (items_of names m.index)
  pub store : s.store ≡ store_of names m.store
  pub running : s.running ≡ Some (stack_of names m)
  pub made : IsMadeCode s.store (stack_of names m)
  pub bounded : live_cells s < 2 ^ 62

-- from such a state, the next one has so many live cells, of which `2 ^ 64 - 1` tells every greater number
abbrev pub LeavesSo : Names → Machine → State Point Callback → (cells : ℕ) → Type 0
LeavesSo names m s cells = (t : State Point Callback) → try_step (callbacks (items_of names m.index)) s ≡ Some t → cells ≡ min (live_cells t) (2 ^ 64 - 1)

-- from such a state, the next one has no more live cells than the cap
abbrev pub LeavesAtMost : Names → Machine → State Point Callback → (cap : ℕ) → Type 0
LeavesAtMost names m s cap = (t : State Point Callback) → try_step (callbacks (items_of names m.index)) s ≡ Some t → live_cells t ≤ cap

-- ---- counting

-- the greatest number that is told
abbrev pub greatest : ℕ
greatest = 2 ^ 64 - 1

-- the cells after a change, where so many were live and these are the variables of the innermost call
abbrev pub IsCounted : Names → Program → Store → List Slot → (live : ℕ) → Change → (after : ℕ) → Type 0
IsCounted names p s slots live C.Stays after = after ≡ live
IsCounted names p s slots live (C.Enters f) after = after ≡ min (live + min (call_cells p (function_of names f.now)) greatest) greatest
IsCounted names p s slots live C.Leaves after = (t : Store) → free_slots slots s ≡ Gives t → after ≡ live - min (slots_cells s slots) greatest
IsCounted names p s slots live (C.Makes n) after = after ≡ min (live + n) greatest
IsCounted names p s slots live (C.Frees n) after = after ≡ live - n
