-- Frames that are put back where they were taken, with as many slots as they had.
use Rattle.std.proofs.Common.{◌≡◌, ◌+◌, ◌<◌, ◌≤◌, ◌^◌, length, vec_capacity, sym, subst}
use Rattle.cpc_native_points.specs.Depth.{deep}
use Rattle.cpc_native_points.specs.declared.parts.Point.{Point}
use Rattle.cpc_eval_index.specs.declared.index.Index.{Index}
use Rattle.cpc_native_frames.specs.declared.frame.Frame.{Frame}
use Rattle.cpc_native_frames.specs.Frames.{IsWellFrame}
use Rattle.cpc_native.specs.declared.calls.Calls.{Calls}
use Rattle.cpc_native.specs.Counts.{slots_count}
use Rattle.cpc_native.specs.Room.{HasPlace}

-- a frame with as many slots has place too
pub place_kept : (calls : Calls) (old new : Frame) → length new.slots.items ≡ length old.slots.items → HasPlace calls old → HasPlace calls new
place_kept calls old new e h = record { row = h.row; few = subst (λ n. slots_count calls.frames.items + n < 2 ^ 64) (sym e) h.few }

-- a frame stays well where its point moves and keeps its room
pub well_moved : (index : Index) (frame : Frame) (q : Point) → vec_capacity q.path ≡ vec_capacity frame.point.path → IsWellFrame index frame → IsWellFrame index (record frame { point = q })
well_moved index frame q e h = record { own = h.own; lawful = h.lawful; rise = h.rise; room = subst (λ n. deep frame.function.now.body ≤ n) (sym e) h.room }
