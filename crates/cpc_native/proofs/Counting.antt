-- The slots of frames are counted, of which the registers are some.
use Rattle.std.proofs.Common.{◌≡◌, ◌+◌, ◌≤◌, List, [], ◌∷◌, arith}
use Rattle.std.proofs.lemmas.List.Sums.{sum_by-cons, count_by-le-length}
use Rattle.cpc_native_frames.specs.declared.frame.Frame.{Frame}
use Rattle.cpc_native.specs.Counts.{is_register, frame_count, frames_count, frame_slots, slots_count}

-- a frame has no more registers than slots
pub registers_few : (f : Frame) → frame_count f ≤ frame_slots f
registers_few f = count_by-le-length is_register f.slots.items

pub counts_few : (frames : List Frame) → frames_count frames ≤ slots_count frames
counts_few [] = omega arith
counts_few (f ∷ fs) =
    let e : frames_count (f ∷ fs) ≡ frame_count f + frames_count fs = sum_by-cons frame_count f fs in
    let k : slots_count (f ∷ fs) ≡ frame_slots f + slots_count fs = sum_by-cons frame_slots f fs in
    let h = counts_few fs in
    let n = registers_few f in
    omega (arith, e, k, h, n)
