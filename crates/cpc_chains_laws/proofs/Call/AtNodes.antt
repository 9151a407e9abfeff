-- Calls, sections and spawns in place, and calls that are left over a frame: before the row of their node a piece does what the source does.
use Rattle.std.proofs.Common.{◌≡◌, ℕ, ◌+◌, ◌*◌, ◌<◌, ◌≤◌, true, List, length, Option}
use Rattle.std.specs.List.{All}
use Rattle.cpc_base.specs.Bytes.{Text}
use Rattle.cpc_store.specs.Store.{Value, Blocks}
use Rattle.cpc_tree.specs.Points.{Simple}
use Rattle.cpc_tree.specs.Registers.{variables}
use Rattle.cpc_tree.specs.Syntax.{Ty, Expr, Exprs, Stmt, Call, Detach, Spawn, Function, Program}
use Rattle.cpc_meaning.specs.Act.{AtStatement}
use Rattle.cpc_meaning.specs.Agenda.{Agenda}
use Rattle.cpc_meaning.specs.Eval.{Slot}
use Rattle.cpc_meaning.specs.Events.{Callback}
use Rattle.cpc_meaning.specs.Plain.{Frame as CallFrame}
use Rattle.cpc_meaning.specs.Ways.{InPlace, ByFrame}
use Rattle.cpc_convert_image_laws.specs.Held.{IsHeldSlot, IsHeldStore, BoxesLive}
use Rattle.cpc_forms.specs.Flow.{Place}
use Rattle.cpc_forms.specs.Split.{Position}
use Rattle.cpc_convert_routines.specs.Named.{IsCps, IsOwner}
use Rattle.cpc_convert_routines.specs.Routines.{routine_of}
use Rattle.cpc_convert_routines.specs.Nodes.{has_row}
use Rattle.cpc_lifted_laws.specs.Accepted.Known.{Stays}
use Rattle.cpc_lifted_laws.specs.Related.Bounds.{Bounds}
use Rattle.cpc_chains_laws.proofs.Related.Relation.{Shared}
use Rattle.cpc_lifted_laws.specs.Native.Convertible.{Convertible}
use Rattle.cpc_lifted_laws.specs.Piece.Known.{CpsKnown}
use Rattle.cpc_chains_laws.specs.Piece.Known.{ProgramKnown}
use Rattle.cpc_chains_laws.specs.Piece.Rows.{RowAt}
use Rattle.cpc_chains_laws.specs.Piece.Stood.{NodeAt, LocalsStand, Arrives}
use Rattle.cpc_chains_laws.proofs.Piece.Nodes.{There, piece_shown}
use Rattle.cpc_chains_laws.proofs.Call.Asking.{asks_there}
use Rattle.cpc_chains_laws.proofs.Call.Entering.{framed_there}
use Rattle.cpc_chains_laws.proofs.Call.Framed.{no_section}
use Rattle.cpc_chains_laws.proofs.Call.Spawns.{spawns_there}

module _ (p : Program) (facts : ProgramKnown p) (h : Convertible p) (fine : CallFrame Position → Option Value → Type 0) (given : Text → List Value → Type 0) (bounds : Bounds) (wide : (g : Function) → IsCps p g → 16 + 3 * length (variables g) ≤ bounds.leads) (f : Function) (known : CpsKnown p f) (enough : 5 + length (variables f) ≤ bounds.onward) (begins : 0 < bounds.leads) (l : Place) (owner : IsOwner (routine_of p f) l)
    (lower pointer result frame : Value)
    (n : ℕ) (at : NodeAt p f l n) (has : has_row (routine_of p f).split n ≡ true) (row : RowAt p (routine_of p f) l n)
    (w : Shared) (bs : Blocks) (c : Agenda Callback) (slots slots' : List Slot) (stands : LocalsStand p (routine_of p f) l slots slots' lower) (o : Option Value) (arrives : Arrives p (routine_of p f) l n slots' o)
    (store : IsHeldStore (Stays p) w.store) (held : All (IsHeldSlot (Stays p)) slots) (live : BoxesLive w.store slots) where
  -- what is asked of the piece, in a function with this result
  abbrev Done : Ty → Type 0
  Done result' = There p facts fine given bounds f known enough begins l owner lower pointer result frame n at has row w bs c slots slots' stands o arrives store held live result'

  -- a primitive that does not wait, or a function of the host
  pub calls : (result' : Ty) (to : Option Expr) (g : Expr) (es : Exprs) → at.node.manner ≡ InPlace → at.node.stood ≡ AtStatement (Simple (Call to g es)) → Done result'
  calls result' to g es m i = asks_there p facts h fine given bounds f known enough begins l owner (piece_shown p facts f known l) lower pointer result frame n at has row w bs c slots slots' stands o store held live m to g es i result'

  -- there is none
  pub sections : (result' : Ty) (to : Option Expr) (g : Text) (es : Exprs) → at.node.manner ≡ InPlace → at.node.stood ≡ AtStatement (Simple (Detach to g es)) → Done result'
  sections result' to g es m i = no_section p f n at.node to g es at.is_node i m

  -- a spawn
  pub spawns : (result' : Ty) (g : Text) (es : Exprs) → at.node.manner ≡ InPlace → at.node.stood ≡ AtStatement (Simple (Spawn g es)) → Done result'
  spawns result' g es m i = spawns_there p facts h fine given bounds wide f known enough begins l owner (piece_shown p facts f known l) lower pointer result frame n at has row w bs c slots slots' stands o store held live m g es i result'

  -- a call of a native or detached function, or of a value
  pub framed : (result' : Ty) (s : Stmt) → at.node.manner ≡ ByFrame → at.node.stood ≡ AtStatement (Simple s) → Done result'
  framed result' s m i = framed_there p facts h fine given bounds f known enough begins l owner (piece_shown p facts f known l) lower pointer result frame n at has row w bs c slots slots' stands o store held live m (Simple s) i result'
