-- What runs in the source and in the target: nothing; native code, alone or above a piece; or a piece above the driver.
use Rattle.std.specs.Prelude.{◌≡◌, ℕ, true, List, [], ◌∷◌, Option, Some, None}
use Rattle.cpc_base.specs.Bytes.{Text}
use Rattle.cpc_store.specs.Store.{Value, Blocks}
use Rattle.cpc_tree.specs.Points.{Point}
use Rattle.cpc_meaning.specs.Eval.{Slot}
use Rattle.cpc_meaning.specs.Plain.{Frame, Stack}
use Rattle.cpc_forms.specs.Flow.{Place}
use Rattle.cpc_forms.specs.Split.{Position, InTree, InGraph}
use Rattle.cpc_convert_image_laws.specs.Held.{IsHeld}
use Rattle.cpc_convert_image_laws.specs.Native.{IsHeldIf}
use Rattle.cpc_convert_image_laws.specs.Stacks.{frame_of, Native}
use Rattle.cpc_chains_store_laws.specs.Chains.{Saved, Chain}
use Rattle.cpc_chains_store_laws.specs.Driver.{driving}
use Rattle.cpc_lifted_laws.specs.Related.Cut.{Cut}
use Rattle.cpc_chains_laws.specs.Related.Items.{FramesWait}

-- a point of a function that is not cut, which is the same in both
abbrev pub SamePoint : Cut → Text → Position → Point → Type 0
SamePoint cut f a b = (a ≡ InTree b) × (cut.whole f ≡ true)

-- Where the piece of an owner stands for a frame of the source at a node, with these variables, at which this value may be arriving: the
-- pointer to the frames below, the frame of the piece, and the value that may be arriving there. (To be said by those who know the pieces.)
abbrev pub Places : Type 1
Places = (f : Text) → (l : Place) → (n : ℕ) → (slots : List Slot) → (arriving : Option Value) → (next : Value) → (piece : Frame Point) → (arriving' : Option Value) → Type 0

module _ (C : Text → Type 0) (cut : Cut) (There : Places) (bs : Blocks) where
  -- a cps frame stands at a node, and its piece there, above the driver; the frames below are the chain of the piece's pointer, in these blocks
  pub data InPiece : List (Frame Position) → (arriving : Option Value) → List (Frame Point) → (arriving' : Option Value) → List ℕ → Type 0 where
    AtNode : (f : Text) (l : Place) (n : ℕ) (slots : List Slot) (o : Option Value) (next : Value) (piece : Frame Point) (o' : Option Value) → There f l n slots o next piece o'
        → (below : List (Frame Position)) (saved : List Saved) (owned : List ℕ) → FramesWait cut below saved → Chain bs saved next owned
        → (pointer result frame : Value) → InPiece (frame_of f (InGraph l n) slots ∷ below) o (piece ∷ driving pointer result frame ∷ []) o' owned

  -- what is below native frames: nothing, or a piece that waits for the value of the native call, whatever it is
  pub data Under : List ℕ → List (Frame Position) → List (Frame Point) → Type 0 where
    Bottom : Under [] [] []
    PieceWaits : (xs : List (Frame Position)) (ys : List (Frame Point)) (owned : List ℕ) → ((v : Value) → IsHeld C v → InPiece xs (Some v) ys (Some v) owned) → Under owned xs ys

  -- what runs in both, with the blocks of the chain below it
  pub data RunningFor : Option (Stack Position) → Option (Stack Point) → List ℕ → Type 0 where
    NothingRuns : RunningFor None None []
    NativeRuns : (xs : List (Frame Position)) (ys : List (Frame Point)) (o : Option Value) (owned : List ℕ) → Native C (SamePoint cut) (Under owned) xs ys → IsHeldIf C o
        → RunningFor (Some (record { frames = xs; arriving = o })) (Some (record { frames = ys; arriving = o })) owned
    PieceRuns : (xs : List (Frame Position)) (o : Option Value) (ys : List (Frame Point)) (o' : Option Value) (owned : List ℕ)
        → InPiece xs o ys o' owned → RunningFor (Some (record { frames = xs; arriving = o })) (Some (record { frames = ys; arriving = o' })) owned
