use Rattle.std.proofs.Common.{◌≡◌, drop}
use Rattle.cpc_native_frames.specs.Living.{are_live}
use Rattle.cpc_native_frames.proofs.freeing.are_live.Given as goal

-- the slots that are left decide
abbrev pub invariant-loop-slot : goal.invariant-loop-slot
invariant-loop-slot l = are_live l.store (drop l.slot-index l.slots) ≡ are_live l.store l.slots
