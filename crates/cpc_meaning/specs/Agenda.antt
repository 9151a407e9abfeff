-- The scheduler's lists, over items of any type.
use Rattle.std.specs.Prelude.{ℕ, suc, ◌+◌, max, nat_lt, nat_le, ◌==◌, Bool, not, ◌&&◌, if◌then◌else◌, ℤ, pos, ◌-ℤ◌, unsigned_abs, int_lt, List, [], ◌∷◌, ◌++◌, length, map, filter, Option, Some, None, Result, Ok, Err}
use Rattle.cpc_num.specs.declared.kinds.Fault.{Fault}
use Rattle.cpc_num.specs.declared.kinds.Fault.TheVariants as F
use Rattle.cpc_num.specs.declared.kinds.Kind.TheVariants.{Int}
use Rattle.cpc_tree.specs.Lists.{is_empty, holds_number}
use Rattle.cpc_base.specs.declared.poll.Direction.{Direction}
use Rattle.cpc_base.specs.declared.poll.Event.{Event}
use Rattle.cpc_base.specs.declared.poll.Event.TheVariants.{Done, Ready}
use Rattle.cpc_tree.specs.Trace.{Told}
use Rattle.cpc_store.specs.Store.{Value, Whole}
pub use Rattle.cpc_base.specs.Waiting.{OnCondition, OnDescriptor, Timer, first_passing, without_first, without, put_timer, is_due, waits_on, waits_for}

-- an item with the result of its wait
pub record Due (T : Type 0) : Type 0 where
  pub item : T
  pub result : Value

-- an item that waits for a section
pub record OnSection (T : Type 0) : Type 0 where
  pub item : T
  pub section : ℕ

-- the items that are ready, those of this round, and those that wait
pub record Agenda (T : Type 0) : Type 0 where
  pub ready : List (Due T)
  pub round : List (Due T)
  pub waiters : List (OnCondition T)
  pub descriptors : List (OnDescriptor T)
  pub timers : List (Timer T)
  pub sections : List (OnSection T)
  -- the conditions that are not released
  pub live : List ℕ
  pub now : ℕ
  -- how many of these were made
  pub conditions_made : ℕ
  pub timers_made : ℕ
  pub sections_made : ℕ

-- nothing is there, and nothing was made
abbrev pub new_agenda : {T : Type 0} → Agenda T
new_agenda = record {
  ready = [];
  round = [];
  waiters = [];
  descriptors = [];
  timers = [];
  sections = [];
  live = [];
  now = 0;
  conditions_made = 0;
  timers_made = 0;
  sections_made = 0;
}

-- what an item gets that waits for nothing, or whose wait gives no other value
abbrev pub no_result : Value
no_result = Whole Int (pos 0)

-- an item with a result
abbrev pub due : {T : Type 0} → T → Value → Due T
due item v = record { item = item; result = v }

-- items that become ready, in this order, with the int 0
abbrev pub ready_all : {T : Type 0} → List T → Agenda T → Agenda T
ready_all items a = record a { ready = a.ready ++ map (λ item. due item no_result) items }

-- an item becomes ready
abbrev pub ready_one : {T : Type 0} → T → Agenda T → Agenda T
ready_one item a = ready_all (item ∷ []) a

-- the ready items are the round
abbrev pub begin_round : {T : Type 0} → Agenda T → Agenda T
begin_round a = record a { ready = []; round = a.ready }

-- ---- conditions

-- a new condition
abbrev pub cond_new : {T : Type 0} → Agenda T → Agenda T
cond_new a = record a { live = a.live ++ a.conditions_made ∷ []; conditions_made = suc a.conditions_made }

-- an act on a condition that is not released
abbrev pub where_live : {T : Type 0} → ℕ → Agenda T → Agenda T → Result (Agenda T) Fault
where_live c a b = if holds_number a.live c then Ok b else Err F.CondVar

-- a condition on which nobody waits is released
abbrev pub cond_free : {T : Type 0} → ℕ → Agenda T → Result (Agenda T) Fault
cond_free c a =
    if is_empty (first_passing (waits_on c) a.waiters)
    then where_live c a (record a { live = without (λ n. n == c) a.live })
    else Err F.CondVar

-- the item waits on the condition
abbrev pub wait : {T : Type 0} → ℕ → T → Agenda T → Result (Agenda T) Fault
wait c item a = where_live c a (record a { waiters = a.waiters ++ record { item = item; condition = c } ∷ [] })

-- the item of a waiter
abbrev pub waiter : {T : Type 0} → OnCondition T → T
waiter w = w.item

-- the longest waiter becomes ready
abbrev pub signal : {T : Type 0} → ℕ → Agenda T → Result (Agenda T) Fault
signal c a = where_live c a
    (ready_all (map waiter (first_passing (waits_on c) a.waiters)) (record a { waiters = without_first (waits_on c) a.waiters }))

-- all waiters become ready, in waiting order
abbrev pub signal_all : {T : Type 0} → ℕ → Agenda T → Result (Agenda T) Fault
signal_all c a = where_live c a
    (ready_all (map waiter (filter (waits_on c) a.waiters)) (record a { waiters = without (waits_on c) a.waiters }))

-- ---- timers and descriptors

-- the item waits for a time from now
abbrev pub sleep : {T : Type 0} → ℤ → T → Agenda T → Result (Agenda T) Fault
sleep n item a =
    if int_lt n (pos 0) then Err F.Length else Ok (record a {
      timers = put_timer (record { item = item; deadline = a.now + unsigned_abs n; number = a.timers_made }) a.timers;
      timers_made = suc a.timers_made;
    })

-- the item waits for a descriptor
abbrev pub io : {T : Type 0} → ℤ → Direction → T → Agenda T → Agenda T
io fd way item a = record a { descriptors = a.descriptors ++ record { item = item; descriptor = fd; direction = way } ∷ [] }

-- ---- sections

-- the item waits for a section, where fewer than 1,024 are out
abbrev pub section : {T : Type 0} → T → Agenda T → Result (Agenda T) Fault
section item a =
    if nat_lt (length a.sections) 1024 then Ok (record a {
      sections = a.sections ++ record { item = item; section = a.sections_made } ∷ [];
      sections_made = suc a.sections_made;
    })
    else Err F.Sections

-- ---- polls

-- whether a timer, a descriptor wait or a section is outstanding
abbrev pub needs_poll : {T : Type 0} → Agenda T → Bool
needs_poll a = not (is_empty a.timers && is_empty a.descriptors && is_empty a.sections)

-- the sections that events name
abbrev pub completed : List Event → List ℕ
completed [] = []
completed (Done n ∷ events) = n ∷ completed events
completed (Ready fd way ∷ events) = completed events

-- the sections that are out
abbrev pub out : {T : Type 0} → Agenda T → List ℕ
out a = map (λ s. s.section) a.sections

-- the first section of these that is not out at its turn
abbrev pub not_out : List ℕ → List ℕ → Option ℕ
not_out [] outs = None
not_out (n ∷ ns) outs = if holds_number outs n then not_out ns (without (λ m. m == n) outs) else Some n

-- the item of a section becomes ready, with its value
abbrev pub finish_section : {T : Type 0} → ℕ → Value → Agenda T → Agenda T
finish_section n v a = record a {
  ready = a.ready ++ map (λ s. due s.item v) (filter (λ s. s.section == n) a.sections);
  sections = without (λ s. s.section == n) a.sections;
}

-- the items of these sections become ready, with these values
abbrev pub finish_sections : {T : Type 0} → List ℕ → List Value → Agenda T → Agenda T
finish_sections [] vs a = a
finish_sections (n ∷ ns) [] a = a
finish_sections (n ∷ ns) (v ∷ vs) a = finish_sections ns vs (finish_section n v a)

-- the item of a descriptor's waiter
abbrev pub descriptor_waiter : {T : Type 0} → OnDescriptor T → T
descriptor_waiter w = w.item

-- the waiters of a descriptor become ready
abbrev pub wake : {T : Type 0} → Event → Agenda T → Agenda T
wake (Done n) a = a
wake (Ready fd way) a =
    ready_all (map descriptor_waiter (filter (waits_for fd way) a.descriptors)) (record a { descriptors = without (waits_for fd way) a.descriptors })

-- the waiters of the descriptors that events name become ready, in the order told
abbrev pub wake_all : {T : Type 0} → List Event → Agenda T → Agenda T
wake_all [] a = a
wake_all (e ∷ es) a = wake_all es (wake e a)

-- the item of a timer
abbrev pub sleeper : {T : Type 0} → Timer T → T
sleeper t = t.item

-- the timers that are due become ready
abbrev pub ring : {T : Type 0} → Agenda T → Agenda T
ring a = ready_all (map sleeper (filter (is_due a.now) a.timers)) (record a { timers = without (is_due a.now) a.timers })

-- a poll that names only sections that are out, with the values that these gave
abbrev pub poll : {T : Type 0} → Told → List Value → Agenda T → Agenda T
poll told vs a =
    ring (wake_all told.events (finish_sections (completed told.events) vs (record a { now = max a.now told.clock })))
