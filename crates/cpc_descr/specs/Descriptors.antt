-- Those who wait for descriptors, as contracts see them.
use Rattle.std.specs.Prelude.{◌+◌, ℕ, ℤ, List, [], ◌∷◌, ◌++◌, map}
use Rattle.cpc_base.specs.declared.poll.Direction.{Direction}
use Rattle.cpc_base.specs.Waiting.{OnDescriptor, waits_for, first_passing, without_first}
use Rattle.cpc_agenda_queues.specs.Queued.{Queued}

-- those who wait, in order of arrival, and how many arrived
pub record Descriptors (T : Type 0) : Type 0 where
  pub waiters : List (OnDescriptor T)
  pub arrived : ℕ

-- nobody waits
abbrev pub no_descriptors : {T : Type 0} → Descriptors T
no_descriptors = record { waiters = []; arrived = 0 }

-- the item waits for the descriptor in this direction
abbrev pub add : {T : Type 0} → ℤ → Direction → T → Descriptors T → Descriptors T
add fd way item s = record { waiters = s.waiters ++ record { item = item; descriptor = fd; direction = way } ∷ []; arrived = s.arrived + 1 }

-- the longest waiter of the descriptor in this direction, in a list with no or one element
abbrev pub first_waiter : {T : Type 0} → ℤ → Direction → Descriptors T → List (OnDescriptor T)
first_waiter fd way s = first_passing (waits_for fd way) s.waiters

-- without that waiter
abbrev pub take_first : {T : Type 0} → ℤ → Direction → Descriptors T → Descriptors T
take_first fd way s = record s { waiters = without_first (waits_for fd way) s.waiters }

-- the item of a waiter
abbrev pub item_of : {T : Type 0} → OnDescriptor T → T
item_of w = w.item

-- what a waiter waits for
abbrev pub place_of : {T : Type 0} → OnDescriptor T → ℤ × Direction
place_of w = (w.descriptor, w.direction)

-- ---- queues by descriptor and direction

-- the waiter of a queue
abbrev pub waiter_of : {T : Type 0} → (ℤ × Direction) × T → OnDescriptor T
waiter_of w = record { item = w.1; descriptor = w.0.0; direction = w.0.1 }

-- what contracts see of queues by descriptor and direction
abbrev pub descriptors_of : {T : Type 0} → Queued (ℤ × Direction) T → Descriptors T
descriptors_of q = record { waiters = map waiter_of q.waiting; arrived = q.arrived }
