-- The lists of the loop, as the definitions have them.
use Rattle.std.specs.Prelude.{◌≡◌, ◌+◌, ◌<◌, ◌≤◌, ℕ, List, length, map}
use Rattle.std.specs.VecDeque.{deque_len, deque_capacity}
use Rattle.cpc_tree.specs.Erase.{Names}
use Rattle.cpc_meaning.specs.Agenda as A
use Rattle.cpc_conds.specs.Conditions.{Conditions}
use Rattle.cpc_descr.specs.Descriptors.{Descriptors}
use Rattle.cpc_timers.specs.Timing.{Timing}
use Rattle.cpc_store.specs.declared.values.Value.{Value}
pub use Rattle.cpc_meaning.specs.Values.{value_of}
use Rattle.cpc_agenda.specs.Sectioning.{Sectioning}
use Rattle.cpc_agenda.specs.declared.agenda.Agenda.{Agenda}

-- an item with the result of its wait
abbrev pub due_of : {T : Type 0} → Names → T × Value → A.Due T
due_of names x = record { item = x.0; result = value_of names x.1 }

-- the lists of these parts, where names have these texts
abbrev pub listed : {T : Type 0} → Names → (ready round : List (T × Value)) → Conditions T → Descriptors T → Timing T → Sectioning T → (now : ℕ) → A.Agenda T
listed names ready round conds descr timers sections now = record {
  ready = map (due_of names) ready;
  round = map (due_of names) round;
  waiters = conds.waiters;
  descriptors = descr.waiters;
  timers = timers.waiting;
  sections = sections.waiting;
  live = conds.live;
  now = now;
  conditions_made = conds.made;
  timers_made = timers.made;
  sections_made = sections.made;
}

-- the lists of the loop, where names have these texts
abbrev pub lists_of : {T : Type 0} → Names → Agenda T → A.Agenda T
lists_of names a = listed names a.ready.items a.round.items a.conds a.descr a.timers a.sections a.clock

-- how many conditions, timers and sections were made, and how many items arrived to wait on conditions and for descriptors
pub record Counters : Type 0 where
  pub conditions : ℕ
  pub timers : ℕ
  pub sections : ℕ
  pub on_conditions : ℕ
  pub on_descriptors : ℕ

-- the counters of the loop
abbrev pub counters_of : {T : Type 0} → Agenda T → Counters
counters_of a = record {
  conditions = a.conds.made;
  timers = a.timers.made;
  sections = a.sections.made;
  on_conditions = a.conds.arrived;
  on_descriptors = a.descr.arrived;
}

-- each counter is below this number
pub record AreBelow (n : ℕ) (c : Counters) : Type 0 where
  pub conditions : c.conditions < n
  pub timers : c.timers < n
  pub sections : c.sections < n
  pub on_conditions : c.on_conditions < n
  pub on_descriptors : c.on_descriptors < n

-- the lists and the counters are as they were
abbrev pub IsAsBefore : {T : Type 0} → (old new : Agenda T) → Type 0
IsAsBefore old new = ((names : Names) → lists_of names new ≡ lists_of names old) × (counters_of new ≡ counters_of old)

-- there is room for so many more items that are ready
abbrev pub HasRoom : {T : Type 0} → ℕ → Agenda T → Type 0
HasRoom n a = deque_len a.ready + n ≤ deque_capacity a.ready

-- how many items a poll can make ready
abbrev pub polled : {T : Type 0} → Agenda T → ℕ
polled a = length a.sections.waiting + (length a.descr.waiters + length a.timers.waiting)
