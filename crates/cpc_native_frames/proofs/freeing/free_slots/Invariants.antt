use Rattle.std.proofs.Common.{◌≡◌, drop}
use Rattle.cpc_tree.specs.Erase.{Names}
use Rattle.cpc_meaning.specs.Slots as M
use Rattle.cpc_eval_values.specs.Shown.{store_of}
use Rattle.cpc_native_frames.specs.Made.{slots_of}
use Rattle.cpc_native_frames.proofs.freeing.free_slots.Given as goal

-- the slots that are left decide
abbrev pub invariant-loop-slot : goal.invariant-loop-slot
invariant-loop-slot l = (names : Names) → M.free_slots (slots_of names (drop l.slot-index l.slots)) (store_of names l.store) ≡ M.free_slots (slots_of names l.slots) (store_of names l.initial.store)
