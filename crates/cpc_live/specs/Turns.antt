-- The poll that is made of what a world tells.
use Rattle.std.specs.Prelude.{◌≡◌, ℕ, min, ◌&&◌, Bool, false, pos, int_le, List, ◌++◌, map, filter, Option}
use Rattle.cpc_base.specs.declared.poll.Event.{Event}
use Rattle.cpc_base.specs.declared.poll.Event.TheVariants.{Done, Ready}
use Rattle.cpc_tree.specs.Trace.{Told, clock_limit, descriptor_limit}
use Rattle.cpc_world.specs.Worlds.{Answered, Wanted, with_answer}

-- whether an event is one of a descriptor within the limits
abbrev pub is_ready : Event → Bool
is_ready (Done n) = false
is_ready (Ready fd way) = int_le (pos 0) fd && int_le fd (pos descriptor_limit)

-- these sections are done
abbrev pub dones : List ℕ → List Event
dones accepted = map Done accepted

-- the poll of a run for which these sections were accepted, in this order: these are done, and then what the world tells of descriptors is ready
abbrev pub poll_of : Told → (accepted : List ℕ) → Told
poll_of told accepted = record { clock = min told.clock clock_limit; events = dones accepted ++ filter is_ready told.events }

-- what a world answers that is asked so, and the poll that is made of it for a run for which these sections were accepted
pub record IsMadeOf (before now : Option (List Answered)) (asked : Wanted) (accepted : List ℕ) (poll : Told) : Type 0 where
  pub told : Told
  pub answer : now ≡ with_answer before (record { asked = asked; told = told })
  pub made : poll ≡ poll_of told accepted
