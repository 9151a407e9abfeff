-- What the loop's acts come to, and what is left to do of those that wake many.
use Rattle.std.specs.Prelude.{ℕ, ℤ, Result, Ok, Err, map, filter}
use Rattle.cpc_base.specs.declared.poll.Direction.{Direction}
use Rattle.cpc_base.specs.declared.stop.Stop.{Stop}
use Rattle.cpc_base.specs.declared.stop.Stop.TheVariants.{Fault}
use Rattle.cpc_base.specs.Waiting.{waits_on, waits_for, without}
pub use Rattle.cpc_base.specs.Stops.{IfFault}
use Rattle.cpc_meaning.specs.Agenda as A

-- the same of a refusal that hands an item back
abbrev pub IfFaultBack : {X T F : Type 0} → Result X (T × Stop F) → (F → Type 0) → Type 0
IfFaultBack (Ok x) P = Unit {0}
IfFaultBack (Err e) P = IfFault {X = Unit {0}} (Err e.1) P

-- all waiters of a condition become ready
abbrev pub waiters_woken : {T : Type 0} → ℕ → A.Agenda T → A.Agenda T
waiters_woken c a = A.ready_all (map A.waiter (filter (waits_on c) a.waiters)) (record a { waiters = without (waits_on c) a.waiters })

-- all waiters of a descriptor in a direction become ready
abbrev pub descriptors_woken : {T : Type 0} → ℤ → Direction → A.Agenda T → A.Agenda T
descriptors_woken fd way a =
    A.ready_all (map A.descriptor_waiter (filter (waits_for fd way) a.descriptors)) (record a { descriptors = without (waits_for fd way) a.descriptors })
