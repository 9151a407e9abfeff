-- The lifted machine: the threads of a form, where each frame forgets in each step the variables that it need not keep.
use Rattle.std.specs.Prelude.{◌≡◌, ℕ, suc, Bool, true, false, List, [], ◌∷◌, map, slice_get, Option, Some, None, option_map}
use Rattle.cpc_base.specs.Bytes.{Text}
use Rattle.cpc_tree.specs.Trace.{Mark, Outcome}
use Rattle.cpc_store.specs.Store.{Unset}
use Rattle.cpc_meaning_matching.specs.Systems.{System}
use Rattle.cpc_meaning.specs.Eval.{Slot, Register}
use Rattle.cpc_meaning.specs.Plain.{Form, Frame, Stack}
use Rattle.cpc_meaning.specs.History.{History}
use Rattle.cpc_meaning.specs.Machine.{State, next}
use Rattle.cpc_meaning.specs.Start.{opening, main_name}
use Rattle.cpc_meaning.specs.Threads.{Thread, Pending, threads_of}

-- a slot that is kept or not
abbrev pub tidy_slot : (keep : Bool) → Slot → Slot
tidy_slot true slot = slot
tidy_slot false slot = Register Unset

-- slots, of which these are kept
abbrev pub tidy_slots : (keep : ℕ → Bool) → List Slot → List Slot
tidy_slots keep [] = []
tidy_slots keep (slot ∷ slots) = tidy_slot (keep 0) slot ∷ tidy_slots (λ k. keep (suc k)) slots

module _ {P : Type 0} (kept : Text → P → ℕ → Bool) where
  -- a frame that forgets what is not kept where it stands
  abbrev pub tidy_frame : Frame P → Frame P
  tidy_frame frame = record frame { slots = tidy_slots (kept frame.function frame.point) frame.slots }

  -- the running stack, if there is one
  abbrev pub tidy_running : Option (Stack P) → Option (Stack P)
  tidy_running None = None
  tidy_running (Some k) = Some (record k { frames = map tidy_frame k.frames })

  -- the state with a tidy running stack
  abbrev pub tidy : State P (Thread P) → State P (Thread P)
  tidy s = record s { running = tidy_running s.running }

  -- the threads of a form, tidied after each step
  abbrev pub lifted_system : Form P → History → System (State P (Thread P)) Mark Outcome
  lifted_system p h = record {
    opening = opening p.program (Pending main_name []) h;
    next = λ s. option_map tidy (next (threads_of p) s);
    trace = λ s. s.trace;
    outcome = λ s. s.outcome;
  }

  -- each slot that is not kept where its frame stands is an unset register
  abbrev pub TidyFrame : Frame P → Type 0
  TidyFrame frame = (k : ℕ) (slot : Slot) → slice_get frame.slots k ≡ Some slot → kept frame.function frame.point k ≡ false → slot ≡ Register Unset

  -- so it is in each of these frames
  abbrev pub TidyFrames : List (Frame P) → Type 0
  TidyFrames [] = Unit {0}
  TidyFrames (frame ∷ frames) = TidyFrame frame × TidyFrames frames

  -- and in those of the running stack
  abbrev pub TidyRunning : Option (Stack P) → Type 0
  TidyRunning None = Unit {0}
  TidyRunning (Some k) = TidyFrames k.frames
