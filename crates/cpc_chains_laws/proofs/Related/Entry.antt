-- What the rows ask of the beginning of a piece: from its entry some steps lead to where it stands for the frame of the source.
use Rattle.std.proofs.Common.{◌≡◌, ℕ, ◌+◌, ◌≤◌, List, [], ◌∷◌, slice_set, Option, Some, None}
use Rattle.cpc_base.specs.Bytes.{Text}
use Rattle.cpc_store.specs.declared.values.Class.TheVariants.{Frame}
use Rattle.cpc_store.specs.Store.{Value, Unset, At as Pointer, Blocks, Store}
use Rattle.cpc_tree.specs.Syntax.{Function}
use Rattle.cpc_tree.specs.Points.{Point}
use Rattle.cpc_tree.specs.Typing.{function_named}
use Rattle.cpc_meaning.specs.Answer.{Gives}
use Rattle.cpc_meaning.specs.Eval.{Slot}
use Rattle.cpc_meaning.specs.Plain.{Frame as CallFrame}
use Rattle.cpc_meaning.specs.Slots.{call_slots}
use Rattle.cpc_forms.specs.Flow.{Place, At}
use Rattle.cpc_forms.specs.Split.{InGraph}
use Rattle.cpc_lift_laws.specs.Lifted.{tidy_slots}
use Rattle.cpc_convert_image_laws.specs.Held.{beside}
use Rattle.cpc_convert_image_laws.specs.Stacks.{frame_of}
use Rattle.cpc_chains_store_laws.specs.Chains.{Saved, Top}
use Rattle.cpc_chains_store_laws.specs.Driver.{DriverFacts, IsPiece, driving, entered}
use Rattle.cpc_convert_flat_laws.specs.Walks.{World, Climbs, running}
use Rattle.cpc_meaning_laws.specs.Cell.Cells.{call_cells}
use Rattle.cpc_lifted_laws.specs.Related.Bounds.{Bounds}
use Rattle.cpc_chains_laws.specs.Related.Fresh.{beyond}
use Rattle.cpc_chains_laws.specs.Related.Items.{saved_at, first_saved}
use Rattle.cpc_chains_laws.proofs.Related.Setting.{Setting, from_form}

-- The piece of this name is entered with the pointer to block b, over these frame blocks and the store s. Some steps, at most so many, lead
-- to where it stands for a frame of f at node n of owner l, with these variables and the store t; block b is then free, and so are blocks
-- that were made besides; the driver may hold another frame by then (so it is with the start of a function whose first node is a leader).
-- The registers with which it is entered, and the live cells that there are on the way above those at its ends, are at most so many together.
pub record Opens (z : Setting) (bound rise : ℕ) (name : Text) (w : World) (bs : Blocks) (s : Store) (b : ℕ) (f : Text) (l : Place) (n : ℕ) (slots : List Slot) (o : Option Value) (next : Value) (t : Store) : Type 0 where
  pub function : Function
  pub is_piece : IsPiece z.target name function
  pub locals : List Slot
  pub called : call_slots z.target function (Pointer Frame b 0 ∷ []) (beside bs s) ≡ Gives (locals, beside bs s)
  pub steps : ℕ
  pub within : steps ≤ bound
  pub piece : CallFrame Point
  pub more : ℕ
  pub taken : Value → Value
  pub grown : ℕ
  pub few : call_cells z.target function + grown ≤ rise
  pub leads : (pointer result frame : Value) → Climbs z.target w.trace steps grown (entered z.target w (beside bs s) function locals pointer result frame)
      (running w (beside (beyond more (slice_set bs b None)) t) (piece ∷ driving pointer result (taken frame) ∷ []) None)
  pub stands : z.there f l n slots o next piece None

-- what is known of the driver, and of the beginning of pieces, whose steps and cells are at most so many
pub record EntryFacts (z : Setting) (b : Bounds) : Type 0 where
  pub driver : DriverFacts z.target
  -- a leader takes up a frame that waits, with the value that arrives
  pub resumes : (w : World) (bs : Blocks) (s : Store) (f : Text) (n : ℕ) (slots : List Slot) (v : Value) (below : List Saved) (k : ℕ) (next : Value) (owned : List ℕ)
      → z.fine (frame_of f (InGraph (At n) n) slots) (Some v) → Top bs (saved_at z.cut f slots n) below k next v owned
      → Opens z b.resumes b.takes (z.cut.piece f (At n)) w bs s k f (At n) n slots (Some v) next s
  -- a leader takes up a frame that was made on the way to it, at which no value arrives
  pub jumps : (w : World) (bs : Blocks) (s : Store) (f : Text) (n : ℕ) (slots : List Slot) (below : List Saved) (k : ℕ) (next : Value) (owned : List ℕ)
      → z.fine (frame_of f (InGraph (At n) n) slots) None → Top bs (saved_at z.cut f slots n) below k next Unset owned
      → Opens z b.resumes b.takes (z.cut.piece f (At n)) w bs s k f (At n) n slots None next s
  -- the start takes up the first frame of a call, and makes its variables as the source does
  pub begins : (w : World) (bs : Blocks) (s t : Store) (f : Text) (g : Function) (vs : List Value) (slots : List Slot) (v : Value) (below : List Saved) (k : ℕ) (next : Value) (owned : List ℕ)
      → function_named z.source f ≡ Some g → z.given f vs → call_slots z.source g vs s ≡ Gives (slots, t)
      → Top bs (first_saved z.cut f vs) below k next v owned
      → (l : Place) × (n : ℕ) × (g.called ≡ f) × ((from_form z).code.first f ≡ InGraph l n) × Opens z b.begins b.opens (first_saved z.cut f vs).piece w bs s k f l n (tidy_slots (z.kept f (InGraph l n)) slots) None next t
