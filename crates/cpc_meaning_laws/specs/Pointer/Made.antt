-- Pointers that lead into blocks that were made, be they freed or not. The blocks of globals are made before a run.
use Rattle.std.specs.Prelude.{◌≡◌, ℕ, ◌<◌, List, slice_get, Option, Some, None}
use Rattle.std.specs.List.{All}
use Rattle.cpc_store.specs.declared.values.Class.{Class}
use Rattle.cpc_store.specs.declared.values.Class.TheVariants.{Static, Auto}
use Rattle.cpc_store.specs.Store.{Value, At, Store, cells_of, next_block}
use Rattle.cpc_meaning.specs.Agenda.{Agenda, Due, OnCondition, OnDescriptor, Timer, OnSection}
use Rattle.cpc_meaning.specs.Eval.{Slot, Register, Boxed}
use Rattle.cpc_meaning.specs.Events.{Callback, CallMain, CallWith}
use Rattle.cpc_meaning.specs.Machine.{State}
use Rattle.cpc_meaning.specs.Plain.{Frame, Stack}

-- the block of this number was made
abbrev pub IsBlock : Store → Class → ℕ → Type 0
IsBlock s Static n = Unit {0}
IsBlock s class n = n < next_block class s

-- a value that is a pointer leads into a block that was made
abbrev pub IsMade : Store → Value → Type 0
IsMade s (At class n k) = IsBlock s class n
IsMade s _ = Unit {0}

-- the same, where there is a value
abbrev pub IsMadeIf : Store → Option Value → Type 0
IsMadeIf s None = Unit {0}
IsMadeIf s (Some v) = IsMade s v

-- a variable holds such a value, or its block was made
abbrev pub IsMadeSlot : Store → Slot → Type 0
IsMadeSlot s (Register v) = IsMade s v
IsMadeSlot s (Boxed n) = IsBlock s Auto n

-- the cells of live blocks do
abbrev pub IsMadeStore : Store → Type 0
IsMadeStore s = (class : Class) (n k : ℕ) (cells : List Value) (v : Value) → cells_of class n s ≡ Some cells → slice_get cells k ≡ Some v → IsMade s v

-- the variables of a call do
abbrev pub IsMadeFrame : {P : Type 0} → Store → Frame P → Type 0
IsMadeFrame s frame = All (IsMadeSlot s) frame.slots

-- a store and the stack of the code that runs on it
pub record IsMadeCode {P : Type 0} (s : Store) (k : Stack P) : Type 0 where
  pub store : IsMadeStore s
  pub frames : All (IsMadeFrame s) k.frames
  pub arriving : IsMadeIf s k.arriving

-- ---- states of the event machine

-- the pointer of a callback
abbrev pub IsMadeCallback : Store → Callback → Type 0
IsMadeCallback s CallMain = Unit {0}
IsMadeCallback s (CallWith f pointer) = IsMade s pointer

-- the callbacks that are ready or wait, and the results of their waits
pub record IsMadeAgenda (s : Store) (a : Agenda Callback) : Type 0 where
  pub ready : All (λ (d : Due Callback). IsMadeCallback s d.item × IsMade s d.result) a.ready
  pub round : All (λ (d : Due Callback). IsMadeCallback s d.item × IsMade s d.result) a.round
  pub waiters : All (λ (w : OnCondition Callback). IsMadeCallback s w.item) a.waiters
  pub descriptors : All (λ (w : OnDescriptor Callback). IsMadeCallback s w.item) a.descriptors
  pub timers : All (λ (w : Timer Callback). IsMadeCallback s w.item) a.timers
  pub sections : All (λ (w : OnSection Callback). IsMadeCallback s w.item) a.sections

-- all pointers of a state
pub record IsMadeState {P : Type 0} (s : State P Callback) : Type 0 where
  pub store : IsMadeStore s.store
  pub running : (k : Stack P) → s.running ≡ Some k → IsMadeCode s.store k
  pub agenda : IsMadeAgenda s.store s.agenda
