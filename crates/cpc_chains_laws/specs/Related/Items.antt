-- A thread that waits, and the callback that stands for it: the driver, with the pointer to the chain of its frames.
use Rattle.std.specs.Prelude.{ℕ, List, [], ◌∷◌, None}
use Rattle.cpc_base.specs.Bytes.{Text}
use Rattle.cpc_store.specs.Store.{Value, Blocks}
use Rattle.cpc_meaning.specs.Eval.{Slot}
use Rattle.cpc_meaning.specs.Plain.{Frame}
use Rattle.cpc_meaning.specs.Threads.{Thread, Pending, Suspended}
use Rattle.cpc_meaning.specs.Events.{CallWith}
use Rattle.cpc_forms.specs.Flow.{Start, At}
use Rattle.cpc_forms.specs.Split.{Position, InGraph}
use Rattle.cpc_convert_image_laws.specs.Stacks.{frame_of}
use Rattle.cpc_chains_store_laws.specs.Chains.{Saved, Chain}
use Rattle.cpc_chains_store_laws.specs.Driver.{drive_name}
use Rattle.cpc_lifted_laws.specs.Related.Cut.{Cut, copied, Tagged}

-- what is saved of a frame that waits where a leader begins
abbrev pub saved_at : Cut → Text → List Slot → ℕ → Saved
saved_at cut f slots n = record { piece = cut.piece f (At n); values = copied slots (cut.keeps f (At n)) }

-- frames of the source that wait, each where a leader begins, and what is saved of them
pub data FramesWait (cut : Cut) : List (Frame Position) → List Saved → Type 0 where
  NoneWait : FramesWait cut [] []
  OneWaits : (f : Text) (n : ℕ) (slots : List Slot) (below : List (Frame Position)) (saved : List Saved) → FramesWait cut below saved
      → FramesWait cut (frame_of f (InGraph (At n) n) slots ∷ below) (saved_at cut f slots n ∷ saved)

-- the first frame of a call with these arguments
abbrev pub first_saved : Cut → Text → List Value → Saved
first_saved cut f vs = record { piece = cut.piece f Start; values = vs }

-- the driver with this pointer, whose chain has these blocks
abbrev pub driven : Value → List ℕ → Tagged
driven p owned = record { callback = CallWith drive_name p; owned = owned }

-- a thread, and the callback that stands for it over these frame blocks: a call that is to begin has the frame of its start; a stack
-- that waits, of at least one frame, is the chain of what is saved of its frames
pub data ItemFor (cut : Cut) (bs : Blocks) : Thread Position → Tagged → Type 0 where
  ForPending : (f : Text) (vs : List Value) (p : Value) (owned : List ℕ) → Chain bs (first_saved cut f vs ∷ []) p owned → ItemFor cut bs (Pending f vs) (driven p owned)
  ForSuspended : (frame : Frame Position) (below : List (Frame Position)) (saved : List Saved) (p : Value) (owned : List ℕ) → FramesWait cut (frame ∷ below) saved → Chain bs saved p owned
      → ItemFor cut bs (Suspended (record { frames = frame ∷ below; arriving = None })) (driven p owned)
