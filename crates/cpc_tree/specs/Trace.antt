-- What is seen of a run: its marks in order, and how it ends.
use Rattle.std.specs.Prelude.{ℕ, ◌-◌, ◌^◌, Bool, true, false, ℤ, List}
use Rattle.cpc_base.specs.Bytes.{Text}
use Rattle.cpc_base.specs.declared.poll.Direction.{Direction}
use Rattle.cpc_base.specs.declared.poll.Event.{Event}
use Rattle.cpc_num.specs.declared.kinds.Fault.{Fault}

-- a poll: a clock, and events in order
pub record Told : Type 0 where
  pub clock : ℕ
  pub events : List Event

-- what a step shows
pub data Mark : Type 0 where
  Output : Text → Mark
  HostCall : (name : Text) → (arguments : List ℤ) → (answer : ℤ) → Mark
  Sleeping : ℤ → Mark
  Waiting : (condition : ℕ) → Mark
  Awaiting : (descriptor : ℤ) → Direction → Mark
  Submitted : (section : ℕ) → (name : Text) → Mark
  Polled : Told → Mark

-- how a run stands
pub data Outcome : Type 0 where
  Going : Outcome
  Ended : (waiters : ℕ) → Outcome
  Exited : ℤ → Outcome
  Failed : Fault → (function : Text) → Outcome
  HistoryEnded : Outcome
  BadHistory : (section : ℕ) → Outcome

-- whether a run is over
abbrev pub is_over : Outcome → Bool
is_over Going = false
is_over _ = true

-- ---- the limits of a history

-- the greatest clock
abbrev pub clock_limit : ℕ
clock_limit = 2 ^ 53

-- the greatest descriptor
abbrev pub descriptor_limit : ℕ
descriptor_limit = 2 ^ 31 - 1

-- the greatest number of a section
abbrev pub section_limit : ℕ
section_limit = 2 ^ 63 - 1

-- the greatest bound on the steps of a section
abbrev pub section_bound_limit : ℕ
section_bound_limit = 1000000000000
