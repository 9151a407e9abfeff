-- Room for frames that are put back.
use Rattle.std.specs.Prelude.{◌+◌, ◌<◌, ◌≤◌, ◌^◌, vec_len, vec_capacity}
use Rattle.cpc_native_frames.specs.declared.frame.Frame.{Frame}
use Rattle.cpc_native.specs.declared.calls.Calls.{Calls}
use Rattle.cpc_native.specs.Counts.{frame_slots, slots_count}

-- a frame with as many slots as this one can be put upon the others without memory
pub record HasPlace (calls : Calls) (frame : Frame) : Type 0 where
  pub row : vec_len calls.frames < vec_capacity calls.frames
  pub few : slots_count calls.frames.items + frame_slots frame < 2 ^ 64

-- and this other one upon that
pub record HasPlaces (calls : Calls) (frame upper : Frame) : Type 0 where
  pub row : vec_len calls.frames + 2 ≤ vec_capacity calls.frames
  pub few : slots_count calls.frames.items + frame_slots frame + frame_slots upper < 2 ^ 64
