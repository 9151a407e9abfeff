-- The boxes of the variables of frames: which blocks they are, and that they are live and no other frame's.
use Rattle.std.specs.Prelude.{ℕ, ◌≤◌, List, [], ◌∷◌, ◌++◌, Option, Some, None}
use Rattle.cpc_meaning.specs.Eval.{Slot, Register, Boxed}
use Rattle.cpc_meaning.specs.Machine.{State}
use Rattle.cpc_meaning.specs.Plain.{Frame, Stack}
use Rattle.cpc_meaning.specs.Threads.{Thread, Pending, Suspended}
use Rattle.cpc_convert_flat_laws.specs.Blocks.{count, lives}
use Rattle.cpc_lifted_laws.specs.Related.Sums.{joined, all_joined}

-- the box of a variable, if it has one
abbrev pub slot_boxes : Slot → List ℕ
slot_boxes (Register v) = []
slot_boxes (Boxed n) = n ∷ []

-- those of a frame's variables
abbrev pub slots_boxes : List Slot → List ℕ
slots_boxes slots = joined slot_boxes slots

-- those of frames
abbrev pub frames_boxes : {P : Type 0} → List (Frame P) → List ℕ
frames_boxes {P = P} frames = joined (λ (frame : Frame P). slots_boxes frame.slots) frames

-- those of the running stack
abbrev pub running_boxes : {P : Type 0} → Option (Stack P) → List ℕ
running_boxes None = []
running_boxes (Some k) = frames_boxes k.frames

-- those of a thread that waits; a call that is to begin has none yet
abbrev pub thread_boxes : {P : Type 0} → Thread P → List ℕ
thread_boxes (Pending f vs) = []
thread_boxes (Suspended k) = frames_boxes k.frames

-- those of all frames of all threads
abbrev pub boxes_of : {P : Type 0} → State P (Thread P) → List ℕ
boxes_of s = running_boxes s.running ++ all_joined thread_boxes s.agenda

-- they are live, and each stands once: no block of `auto` memory is the box of two variables
pub record OwnsBoxes {P : Type 0} (s : State P (Thread P)) : Type 0 where
  pub each : (b : ℕ) → count b (boxes_of s) ≤ lives s.store.auto b
