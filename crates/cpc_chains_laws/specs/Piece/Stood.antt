-- Where the piece of an owner stands for a frame of its function: before the row of the frame's node, or at the native call whose value is to
-- arrive there, with the variables that the owner keeps in its locals.
use Rattle.std.specs.Prelude.{◌≡◌, ℕ, true, List, ◌∷◌, length, slice_get, Option, Some, None}
use Rattle.cpc_base.specs.Bytes.{Text}
use Rattle.cpc_store.specs.Store.{Value}
use Rattle.cpc_tree.specs.Lists.{holds_number}
use Rattle.cpc_tree.specs.Points.{Nth, Point, Arrival, enter, Simple}
use Rattle.cpc_tree.specs.Syntax.{Expr, Exprs, Stmt, Call, Stmts, AndStmt, Function, Program}
use Rattle.cpc_meaning.specs.Act.{AtStatement}
use Rattle.cpc_meaning.specs.Eval.{Slot, Register, Fits}
use Rattle.cpc_meaning.specs.Plain.{Frame}
use Rattle.cpc_meaning.specs.Ways.{ByFrame}
use Rattle.cpc_forms.specs.Flow.{Place, At}
use Rattle.cpc_forms.specs.Graph.{Node}
use Rattle.cpc_convert_image_laws.specs.Locals.{Stands, FitsAt}
use Rattle.cpc_convert_flat_laws.specs.Boxes.{AllRegisters}
use Rattle.cpc_chains_store_laws.specs.Driver.{any_pointer}
use Rattle.cpc_convert_flat_laws.specs.Walks.{frame_at}
use Rattle.cpc_convert_routines.specs.Names.{piece_name, value_name}
use Rattle.cpc_convert_routines.specs.Routines.{Routine, routine_of, keeper, closure_of, is_plain, local_of, variable_of}
use Rattle.cpc_convert_routines.specs.Arriving.{arriving_type}
use Rattle.cpc_convert_routines.specs.Taken.{takes_value}
use Rattle.cpc_chains_event.specs.Pieces.{called_so}
use Rattle.cpc_convert_routines.specs.Nodes.{has_row}
use Rattle.cpc_chains_event.specs.LocalLaws.{piece_locals}
use Rattle.cpc_convert_routines.specs.Named.{IsOwner}
use Rattle.cpc_chains_laws.specs.Piece.Rows.{RowAt, row_index, row_rest, row_point}
use Rattle.cpc_lifted_laws.specs.Piece.Known.{IsFound}

-- a node of a function that an owner owns, which keeps its own closure
pub record NodeAt (p : Program) (g : Function) (l : Place) (n : ℕ) : Type 0 where
  pub owner : IsOwner (routine_of p g) l
  pub keeps : keeper (routine_of p g).split l ≡ l
  pub owned : slice_get (routine_of p g).split.owners n ≡ Some (Some l)
  pub node : Node
  pub is_node : slice_get (routine_of p g).split.graph.nodes n ≡ Some node

-- The locals of a piece hold what the slots of the source hold: each variable that the owner keeps stands in its local, a register's value
-- fits its type, and `next__` holds the pointer to the frames below. All are registers.
pub record LocalsStand (p : Program) (r : Routine) (l : Place) (slots slots' : List Slot) (lower : Value) : Type 0 where
  pub number : length slots' ≡ length (piece_locals p r l)
  pub registers : AllRegisters slots'
  pub next : slice_get slots' 2 ≡ Some (Register lower)
  pub pointer : Fits any_pointer lower
  pub kept : (k i : ℕ) → holds_number (closure_of r l) k ≡ true → slice_get (piece_locals p r l) i ≡ Some (local_of r k) → Stands slots slots' (is_plain r k) k i
  pub fits : (k : ℕ) → holds_number (closure_of r l) k ≡ true → FitsAt slots (variable_of r k).type k

-- a value arrives at the node at which a piece begins; it stands in its local, if it is put somewhere
pub data Arrives (p : Program) (r : Routine) (l : Place) (n : ℕ) (slots' : List Slot) : Option Value → Type 0 where
  NoneArrives : Arrives p r l n slots' None
  OneArrives : (v : Value) → l ≡ At n → (takes_value r l ≡ true → (i : ℕ) → slice_get (piece_locals p r l) i ≡ Some (called_so value_name (arriving_type p r l)) → slice_get slots' i ≡ Some (Register v)) → Arrives p r l n slots' (Some v)

-- a row begins with the image of a call, and then come these statements
pub record CallAt (p : Program) (g : Function) (l : Place) (m : ℕ) (at : RowAt p (routine_of p g) l m) : Type 0 where
  pub node : NodeAt p g l m
  pub target : Option Expr
  pub function : Expr
  pub arguments : Exprs
  pub stands : node.node.stood ≡ AtStatement (Simple (Call target function arguments))
  pub manner : node.node.manner ≡ ByFrame
  pub statement : Stmt
  pub rest : Stmts
  pub is_first : row_rest p (routine_of p g) l m at ≡ AndStmt statement rest

-- the point at which the value of the call arrives
abbrev pub call_point : (p : Program) (g : Function) (l : Place) (m : ℕ) (at : RowAt p (routine_of p g) l m) → CallAt p g l m at → Point
call_point p g l m at call = Arrival (Nth (row_index p (routine_of p g) l m at) ∷ enter call.statement)

-- where pieces stand for frames of a program
pub data Stood (p : Program) : (f : Text) → (l : Place) → (n : ℕ) → (slots : List Slot) → (arriving : Option Value) → (next : Value) → (piece : Frame Point) → (arriving' : Option Value) → Type 0 where
  AtRow : (g : Function) (l : Place) (n : ℕ) (slots : List Slot) (o : Option Value) (lower : Value) (slots' : List Slot) → IsFound p g → NodeAt p g l n → has_row (routine_of p g).split n ≡ true → (at : RowAt p (routine_of p g) l n)
      → LocalsStand p (routine_of p g) l slots slots' lower → Arrives p (routine_of p g) l n slots' o
      → Stood p g.called l n slots o lower (frame_at (piece_name g.called l) (row_point p (routine_of p g) l n at) slots') None
  AtCall : (g : Function) (l : Place) (m n : ℕ) (slots : List Slot) (v lower : Value) (slots' : List Slot) → IsFound p g → NodeAt p g l n → (at : RowAt p (routine_of p g) l m) → (call : CallAt p g l m at)
      → call.node.node.arrival ≡ Some n → LocalsStand p (routine_of p g) l slots slots' lower
      → Stood p g.called l n slots (Some v) lower (frame_at (piece_name g.called l) (call_point p g l m at call) slots') (Some v)
