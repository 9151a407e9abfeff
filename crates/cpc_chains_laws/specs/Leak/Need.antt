-- What the threads of a program need in frames, once it is an event program: how many cps frames they have, and how many cells.
use Rattle.std.specs.Prelude.{ℕ, ◌+◌, Bool, true, false, not, if◌then◌else◌, List, [], ◌∷◌, length, Option, Some, None}
use Rattle.cpc_base.specs.Bytes.{Text}
use Rattle.cpc_store.specs.Store.{Value, store_cells}
use Rattle.cpc_tree.specs.Points.{Point}
use Rattle.cpc_tree.specs.Syntax.{Function, Program}
use Rattle.cpc_tree.specs.Typing.{function_named}
use Rattle.cpc_meaning.specs.Eval.{Slot}
use Rattle.cpc_meaning.specs.Machine.{State}
use Rattle.cpc_meaning.specs.Plain.{Frame, Stack}
use Rattle.cpc_meaning.specs.Runs.{slots_registers}
use Rattle.cpc_meaning.specs.Threads.{Thread, Pending, Suspended, is_cps}
use Rattle.cpc_lift_laws.specs.Lift.{variables_in}
use Rattle.cpc_forms.specs.Flow.{At}
use Rattle.cpc_forms.specs.Order.{number_of}
use Rattle.cpc_convert_routines.specs.Routines.{routine_of, closure_of}
use Rattle.cpc_lifted_laws.specs.Related.Sums.{sum, total}

-- a number, where it counts
abbrev pub where_so : Bool → ℕ → ℕ
where_so true n = n
where_so false n = 0

-- the registers of a frame, where its function is not cps
abbrev pub native_slots : Option Function → List Slot → ℕ
native_slots o slots = where_so (not (is_cps o)) (slots_registers slots)

-- how many variables are in the closure of the leader at a point of a function
abbrev pub closure_at : Program → Option Function → Point → ℕ
closure_at p None point = 0
closure_at p (Some f) point = length (closure_of (routine_of p f) (At (number_of f.body point)))

-- a thread, by what a call that is to begin counts, and each frame of one that waits
abbrev pub thread_weight : {P : Type 0} → (Text → List Value → ℕ) → (Frame P → ℕ) → Thread P → ℕ
thread_weight pending w (Pending f vs) = pending f vs
thread_weight pending w (Suspended k) = sum w k.frames

-- what runs, if anything does, by its frames
abbrev pub stack_weight : {P : Type 0} → (List (Frame P) → ℕ) → Option (Stack P) → ℕ
stack_weight w None = 0
stack_weight w (Some k) = w k.frames

module _ (p : Program) where
  -- whether a frame is one of a cps function
  abbrev pub is_cps_frame : Frame Point → Bool
  is_cps_frame frame = is_cps (function_named p frame.function)

  -- 1 for a cps frame
  abbrev pub frame_count : Frame Point → ℕ
  frame_count frame = where_so (is_cps_frame frame) 1

  -- what a cps frame that waits needs: 8, and 1 for each variable in the closure of the arrival at which it waits
  abbrev pub frame_need : Frame Point → ℕ
  frame_need frame = where_so (is_cps_frame frame) (8 + closure_at p (function_named p frame.function) frame.point)

  -- what the frames of a running stack need: the first cps frame runs, and needs 8, and 1 for each of its variables
  abbrev pub running_need : List (Frame Point) → ℕ
  running_need [] = 0
  running_need (frame ∷ below) = if is_cps_frame frame then 8 + variables_in (function_named p frame.function) + sum frame_need below else running_need below

  -- a thread's cps frames; a call that is to begin counts 1
  abbrev pub thread_count : Thread Point → ℕ
  thread_count = thread_weight (λ f vs. 1) frame_count

  -- what a thread needs; a call that is to begin needs 8, and 1 for each argument
  abbrev pub thread_need : Thread Point → ℕ
  thread_need = thread_weight (λ f vs. 8 + length vs) frame_need

  -- all cps frames of all threads of a state
  abbrev pub frames_in : State Point (Thread Point) → ℕ
  frames_in s = stack_weight (sum frame_count) s.running + total thread_count s.agenda

  -- what they need
  abbrev pub need : State Point (Thread Point) → ℕ
  need s = stack_weight running_need s.running + total thread_need s.agenda

  -- the registers of a native or detached frame
  abbrev pub native_registers : {P : Type 0} → Frame P → ℕ
  native_registers frame = native_slots (function_named p frame.function) frame.slots

  -- the measure of a state: the cells of its live blocks, the registers of its native and detached frames, and what its cps frames need
  abbrev pub measure : State Point (Thread Point) → ℕ
  measure s = store_cells s.store + (stack_weight (sum native_registers) s.running + need s)
