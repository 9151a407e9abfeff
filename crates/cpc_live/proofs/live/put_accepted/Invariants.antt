use Rattle.std.proofs.Common.{◌≡◌, ◌++◌, take}
use Rattle.cpc_live.specs.Turns.{dones}
use Rattle.cpc_live.proofs.live.put_accepted.Given as goal

abbrev pub invariant-loop-section : goal.invariant-loop-section
invariant-loop-section l = l.events.items ≡ l.fn.events.items ++ dones (take l.section-index l.accepted)
