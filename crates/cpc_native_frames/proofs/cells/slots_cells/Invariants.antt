use Rattle.std.proofs.Common.{◌≡◌, ◌<◌, ◌^◌, drop}
use Rattle.cpc_native_frames.proofs.Leaving.{with_left, slots_size}
use Rattle.cpc_native_frames.proofs.cells.slots_cells.Given as goal

-- with the slots that are left, all are counted
abbrev pub invariant-loop-slot : goal.invariant-loop-slot
invariant-loop-slot l = record {
  low : l.total < 2 ^ 64;
  rest : with_left l.total (slots_size l.store (drop l.slot-index l.slots)) ≡ with_left 0 (slots_size l.store l.slots);
}
