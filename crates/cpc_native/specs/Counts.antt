-- How many registers and slots frames have.
use Rattle.std.specs.Prelude.{ℕ, Bool, true, false, List, length}
use Rattle.std.specs.List.{sum_by, count_by}
use Rattle.cpc_eval.specs.declared.around.Slot.{Slot}
use Rattle.cpc_eval.specs.declared.around.Slot.TheVariants as G
use Rattle.cpc_native_frames.specs.declared.frame.Frame.{Frame}

abbrev pub is_register : Slot → Bool
is_register (G.Register v) = true
is_register (G.Boxed n) = false

-- the registers among slots
abbrev pub registers_in : List Slot → ℕ
registers_in slots = count_by is_register slots

-- the registers of a frame
abbrev pub frame_count : Frame → ℕ
frame_count f = registers_in f.slots.items

-- the registers of frames
abbrev pub frames_count : List Frame → ℕ
frames_count frames = sum_by frame_count frames

-- the slots of a frame
abbrev pub frame_slots : Frame → ℕ
frame_slots f = length f.slots.items

-- the slots of frames
abbrev pub slots_count : List Frame → ℕ
slots_count frames = sum_by frame_slots frames
