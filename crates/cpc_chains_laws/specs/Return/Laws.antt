-- What is known of the boxes of a frame, as a statement.
use Rattle.std.specs.Prelude.{◌≡◌, ℕ, List, length}
use Rattle.cpc_tree.specs.Registers.{variables}
use Rattle.cpc_tree.specs.Syntax.{Function, Program}
use Rattle.cpc_meaning.specs.Eval.{Slot}
use Rattle.cpc_convert_image_laws.specs.Stacks.{frame_of}
use Rattle.cpc_forms.specs.Flow.{Place}
use Rattle.cpc_forms.specs.Split.{InGraph}
use Rattle.cpc_lift_laws.specs.Lifted.{TidyFrame}
use Rattle.cpc_lifted_laws.specs.Accepted.Known.{Stays, FineFrame}
use Rattle.cpc_lifted_laws.specs.Accepted.Lifted.{kept_of}
use Rattle.cpc_lifted_laws.specs.Piece.Known.{CpsKnown}
use Rattle.cpc_chains_laws.specs.Piece.Stood.{NodeAt}
use Rattle.cpc_chains_laws.specs.Return.Kept.{KeepsBoxes}

-- where a frame has forgotten what it need not keep, its boxes are variables that its owner keeps
abbrev pub BoxesAreKept : Type 0
BoxesAreKept =
    (p : Program) (f : Function) → CpsKnown p f → (l : Place) (n : ℕ) → NodeAt p f l n → (slots : List Slot) → length slots ≡ length (variables f)
    → TidyFrame (kept_of p) (frame_of f.called (InGraph l n) slots) → KeepsBoxes p f l slots

-- so it is in a frame of which it is known which variables it keeps
abbrev pub FineBoxesAreKept : Type 0
FineBoxesAreKept =
    (p : Program) (f : Function) → CpsKnown p f → (l : Place) (n : ℕ) → NodeAt p f l n → (slots : List Slot) → FineFrame p (Stays p) (frame_of f.called (InGraph l n) slots) → KeepsBoxes p f l slots
