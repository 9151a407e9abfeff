use Rattle.std.proofs.Common.{◌≡◌, ◌++◌, take, filter}
use Rattle.cpc_live.specs.Turns.{is_ready}
use Rattle.cpc_live.proofs.live.put_ready.Given as goal

abbrev pub invariant-loop-event : goal.invariant-loop-event
invariant-loop-event l = l.events.items ≡ l.fn.events.items ++ filter is_ready (take l.event-index l.told)
