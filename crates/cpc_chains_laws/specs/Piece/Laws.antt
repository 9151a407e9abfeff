-- What is known of where pieces stand, as statements.
use Rattle.std.specs.Prelude.{◌≡◌, ℕ, true, List, Option}
use Rattle.cpc_base.specs.Bytes.{Text}
use Rattle.cpc_store.specs.Store.{Value}
use Rattle.cpc_tree.specs.Lists.{holds_number}
use Rattle.cpc_tree.specs.Points.{Point}
use Rattle.cpc_tree.specs.Syntax.{Function, Program}
use Rattle.cpc_meaning.specs.Eval.{Slot}
use Rattle.cpc_meaning.specs.Plain.{Frame}
use Rattle.cpc_forms.specs.Flow.{Place}
use Rattle.cpc_forms.specs.Split.{InGraph}
use Rattle.cpc_lift_laws.specs.Lifted.{tidy_slots}
use Rattle.cpc_convert_routines.specs.Routines.{routine_of}
use Rattle.cpc_chains_event.specs.Rows.{numbers_of}
use Rattle.cpc_lifted_laws.specs.Accepted.Lifted.{kept_of}
use Rattle.cpc_convert_routines.specs.Named.{IsNamed}
use Rattle.cpc_chains_laws.specs.Piece.Rows.{RowAt}
use Rattle.cpc_chains_laws.specs.Piece.Stood.{Stood}

-- each number of a piece has its row, and any two rows of one number are one
pub record RowsStand (p : Program) (f : Function) (l : Place) : Type 0 where
  pub row : (n : ℕ) → holds_number (numbers_of p (routine_of p f) l) n ≡ true → RowAt p (routine_of p f) l n
  pub one : (n : ℕ) (a b : RowAt p (routine_of p f) l n) → (a.front ≡ b.front) × (a.back ≡ b.back)

abbrev pub AllRowsStand : Type 0
AllRowsStand = (p : Program) (f : Function) (l : Place) → RowsStand p f l

-- a piece that stands for a frame stands for it also where the frame has forgotten what it need not keep
abbrev pub StoodIsTidied : Type 0
StoodIsTidied =
    (p : Program) → IsNamed p → (f : Text) (l : Place) (n : ℕ) (slots : List Slot) (o : Option Value) (next : Value) (piece : Frame Point) (o' : Option Value)
    → Stood p f l n slots o next piece o' → Stood p f l n (tidy_slots (kept_of p f (InGraph l n)) slots) o next piece o'
