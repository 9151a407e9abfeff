-- Items that wait in queues as contracts see them, and how they are found.
use Rattle.std.specs.Prelude.{◌≡◌, ◌+◌, ◌<◌, ℕ, Bool, List, [], ◌∷◌, ◌++◌, map, filter}
use Rattle.std.specs.List.{AllByRecursion}
use Rattle.std.specs.declared.cmp.Ordering.{Ordering}
use Rattle.std.specs.Ordering.{nat_cmp, match_ordering}
use Rattle.std.specs.List.Sorted.{IsStrictlySortedBy}
use Rattle.std.specs.BTreeMap.{is_at}
use Rattle.std.specs.Map.{keys_of}
use Rattle.cpc_base.specs.Waiting.{first_passing, without_first}
pub use Rattle.cpc_base.specs.Lists.{first_of, rest_of}
use Rattle.cpc_agenda_queues.specs.Numbers.{queue_at}

-- the items that wait, each with the key of its queue, in order of arrival; the keys that have a queue, in order; and how many arrived
pub record Queued (K T : Type 0) : Type 0 where
  pub waiting : List (K × T)
  pub keys : List K
  pub arrived : ℕ

-- no queue, and nobody waits
abbrev pub no_queues : {K T : Type 0} → Queued K T
no_queues = record { waiting = []; keys = []; arrived = 0 }

-- whether an item waits in the queue of a key
abbrev pub waits_in : {K T : Type 0} → (K → K → Ordering) → K → K × T → Bool
waits_in cmp k w = is_at (cmp k) w.0

-- a key goes to its place among keys in order
abbrev pub put_key : {K : Type 0} → (K → K → Ordering) → K → List K → List K
put_key cmp k [] = k ∷ []
put_key cmp k (x ∷ xs) = match_ordering (cmp k x) (k ∷ x ∷ xs) (x ∷ xs) (x ∷ put_key cmp k xs)

-- without a key
abbrev pub drop_key : {K : Type 0} → (K → K → Ordering) → K → List K → List K
drop_key cmp k xs = without_first (is_at (cmp k)) xs

-- the key gets a queue
abbrev pub open_key : {K T : Type 0} → (K → K → Ordering) → K → Queued K T → Queued K T
open_key cmp k s = record s { keys = put_key cmp k s.keys }

-- the queue of the key is dropped
abbrev pub close_key : {K T : Type 0} → (K → K → Ordering) → K → Queued K T → Queued K T
close_key cmp k s = record s { keys = drop_key cmp k s.keys }

-- the item of a waiter
abbrev pub item_of : {K T : Type 0} → K × T → T
item_of w = w.1

-- the key of a waiter
abbrev pub key_of : {K T : Type 0} → K × T → K
key_of w = w.0

-- the item waits in the queue of the key
abbrev pub wait : {K T : Type 0} → K → T → Queued K T → Queued K T
wait k item s = record { waiting = s.waiting ++ (k, item) ∷ []; keys = s.keys; arrived = s.arrived + 1 }

-- the first item in the queue of the key, in a list with no or one element
abbrev pub first_in : {K T : Type 0} → (K → K → Ordering) → K → Queued K T → List (K × T)
first_in cmp k s = first_passing (waits_in cmp k) s.waiting

-- without that item
abbrev pub take_first : {K T : Type 0} → (K → K → Ordering) → K → Queued K T → Queued K T
take_first cmp k s = record s { waiting = without_first (waits_in cmp k) s.waiting }

-- ---- waiters by arrival number, and the numbers of each queue

-- the arrival numbers of those who wait in the queue of a key
abbrev pub numbers_in : {K T : Type 0} → (K → K → Ordering) → K → List (ℕ × (K × T)) → List ℕ
numbers_in cmp q es = map (λ e. e.0) (filter (λ e. is_at (cmp q) e.1.0) es)

-- the waiters, without their numbers
abbrev pub waiting_of : {K T : Type 0} → List (ℕ × (K × T)) → List (K × T)
waiting_of es = map (λ e. e.1) es

-- what contracts see of waiters by number, and of the queues
abbrev pub queued_of : {K T : Type 0} → List (ℕ × (K × T)) → List (K × List ℕ) → ℕ → Queued K T
queued_of es ns arrived = record { waiting = waiting_of es; keys = keys_of ns; arrived = arrived }

-- the numbers ascend and are below the count, and each queue has the numbers of its waiters, in order
pub record IsIndexed {K T : Type 0} (cmp : K → K → Ordering) (es : List (ℕ × (K × T))) (ns : List (K × List ℕ)) (arrived : ℕ) : Type 0 where
  pub below : AllByRecursion (λ e. e.0 < arrived) es
  pub ascend : IsStrictlySortedBy nat_cmp (keys_of es)
  pub found : (q : K) → queue_at cmp q ns ≡ numbers_in cmp q es
