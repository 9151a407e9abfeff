-- Conditions and those who wait on them, as contracts see them.
use Rattle.std.specs.Prelude.{◌≡◌, ◌+◌, ◌<◌, ◌==◌, ℕ, Bool, List, [], ◌∷◌, ◌++◌, map}
use Rattle.std.specs.List.{AllByRecursion, list_any}
use Rattle.std.specs.List.Sorted.{IsStrictlySortedBy}
use Rattle.std.specs.Ordering.{nat_cmp}
use Rattle.cpc_base.specs.Waiting.{OnCondition, waits_on, first_passing, without_first, without}
use Rattle.cpc_agenda_queues.specs.Queued.{Queued}

-- those who wait, in order of arrival; the conditions that are not released, in order of making; how many were made, and how many arrived
pub record Conditions (T : Type 0) : Type 0 where
  pub waiters : List (OnCondition T)
  pub live : List ℕ
  pub made : ℕ
  pub arrived : ℕ

-- no condition was made
abbrev pub no_conditions : {T : Type 0} → Conditions T
no_conditions = record { waiters = []; live = []; made = 0; arrived = 0 }

-- a new condition
abbrev pub make : {T : Type 0} → Conditions T → Conditions T
make s = record s { live = s.live ++ s.made ∷ []; made = s.made + 1 }

-- whether a condition is not released
abbrev pub is_live : {T : Type 0} → ℕ → Conditions T → Bool
is_live c s = list_any (λ n. n == c) s.live

-- the longest waiter of the condition, in a list with no or one element
abbrev pub first_waiter : {T : Type 0} → ℕ → Conditions T → List (OnCondition T)
first_waiter c s = first_passing (waits_on c) s.waiters

-- whether nobody waits on the condition
abbrev pub NobodyWaits : {T : Type 0} → ℕ → Conditions T → Type 0
NobodyWaits c s = first_waiter c s ≡ []

-- the condition is released
abbrev pub release : {T : Type 0} → ℕ → Conditions T → Conditions T
release c s = record s { live = without (λ n. n == c) s.live }

-- the item waits on the condition
abbrev pub wait : {T : Type 0} → ℕ → T → Conditions T → Conditions T
wait c item s = record s { waiters = s.waiters ++ record { item = item; condition = c } ∷ []; arrived = s.arrived + 1 }

-- without the longest waiter of the condition
abbrev pub take_first : {T : Type 0} → ℕ → Conditions T → Conditions T
take_first c s = record s { waiters = without_first (waits_on c) s.waiters }

-- the item of a waiter
abbrev pub item_of : {T : Type 0} → OnCondition T → T
item_of w = w.item

-- ---- queues by condition

-- the waiter of a queue
abbrev pub waiter_of : {T : Type 0} → ℕ × T → OnCondition T
waiter_of w = record { item = w.1; condition = w.0 }

-- what contracts see of queues by condition
abbrev pub conditions_of : {T : Type 0} → Queued ℕ T → ℕ → Conditions T
conditions_of q made = record { waiters = map waiter_of q.waiting; live = q.keys; made = made; arrived = q.arrived }

-- the conditions ascend, below the count
abbrev pub AreMade : List ℕ → ℕ → Type 0
AreMade live made = AllByRecursion (λ n. n < made) live × IsStrictlySortedBy nat_cmp live
