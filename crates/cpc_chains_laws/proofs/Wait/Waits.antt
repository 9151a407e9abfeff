-- What a piece does before the row of a cps statement: it waits, submits a section, or enters a cps function, as the source does.
use Rattle.std.proofs.Common.{◌≡◌, ℕ, ◌+◌, ◌<◌, ◌≤◌, true, List, length, Option}
use Rattle.std.specs.List.{All}
use Rattle.cpc_base.specs.Bytes.{Text}
use Rattle.cpc_tree.specs.Points.{Simple}
use Rattle.cpc_tree.specs.Registers.{variables}
use Rattle.cpc_tree.specs.Syntax.{Ty, Stmt, Function, Program}
use Rattle.cpc_store.specs.Store.{Value, Blocks}
use Rattle.cpc_meaning.specs.Act.{AtStatement}
use Rattle.cpc_meaning.specs.Agenda.{Agenda}
use Rattle.cpc_meaning.specs.Eval.{Slot}
use Rattle.cpc_meaning.specs.Events.{Callback}
use Rattle.cpc_meaning.specs.Plain.{Frame as CallFrame}
use Rattle.cpc_meaning.specs.Ways.{AsCps}
use Rattle.cpc_convert_image_laws.specs.Held.{IsHeldSlot, IsHeldStore, BoxesLive}
use Rattle.cpc_forms.specs.Flow.{Place}
use Rattle.cpc_forms.specs.Split.{Position}
use Rattle.cpc_convert_routines.specs.Named.{IsOwner}
use Rattle.cpc_convert_routines.specs.Routines.{routine_of}
use Rattle.cpc_convert_routines.specs.Nodes.{has_row}
use Rattle.cpc_lifted_laws.specs.Accepted.Known.{Stays}
use Rattle.cpc_lifted_laws.specs.Accepted.Names.{HasNames}
use Rattle.cpc_lifted_laws.specs.Related.Bounds.{Bounds}
use Rattle.cpc_chains_laws.proofs.Related.Relation.{Shared}
use Rattle.cpc_lifted_laws.specs.Piece.Known.{CpsKnown}
use Rattle.cpc_chains_laws.specs.Piece.Known.{ProgramKnown}
use Rattle.cpc_chains_laws.specs.Piece.Rows.{RowAt}
use Rattle.cpc_chains_laws.specs.Piece.Stood.{NodeAt, LocalsStand, Arrives}
use Rattle.cpc_chains_laws.proofs.Piece.Acting.{found_typed}
use Rattle.cpc_chains_laws.proofs.Piece.Nodes.{There, piece_shown}
use Rattle.cpc_lifted_laws.specs.Wait.Asked.{GivenWhereFit, IsWide}
use Rattle.cpc_chains_laws.specs.Wait.Waiting.{Waiting, CallsCps, CallsWait, Submits}
use Rattle.cpc_chains_laws.proofs.Wait.Behind.{cps_statements}
use Rattle.cpc_chains_laws.proofs.Wait.Calling.{enters_there}
use Rattle.cpc_chains_laws.proofs.Wait.Pausing.{waits_there}
use Rattle.cpc_chains_laws.proofs.Wait.Submitting.{submits_there}

module _ (p : Program) (facts : ProgramKnown p) (names : HasNames p) (fine : CallFrame Position → Option Value → Type 0) (given : Text → List Value → Type 0) (fit : GivenWhereFit p given) (bounds : Bounds) (wide : IsWide p bounds.leads) (f : Function) (known : CpsKnown p f) (enough : 5 + length (variables f) ≤ bounds.onward) (begins : 0 < bounds.leads) (l : Place) (owner : IsOwner (routine_of p f) l)
    (lower pointer result frame : Value)
    (n : ℕ) (at : NodeAt p f l n) (has : has_row (routine_of p f).split n ≡ true) (row : RowAt p (routine_of p f) l n)
    (w : Shared) (bs : Blocks) (c : Agenda Callback) (slots slots' : List Slot) (stands : LocalsStand p (routine_of p f) l slots slots' lower) (o : Option Value) (arrives : Arrives p (routine_of p f) l n slots' o)
    (store : IsHeldStore (Stays p) w.store) (held : All (IsHeldSlot (Stays p)) slots) (live : BoxesLive w.store slots) where
  abbrev pub Here : Ty → Type 0
  Here result' = There p facts fine given bounds f known enough begins l owner lower pointer result frame n at has row w bs c slots slots' stands o arrives store held live result'

  by_kind : (s : Stmt) → Waiting p at.node.scope s → at.node.manner ≡ AsCps → at.node.stood ≡ AtStatement (Simple s) → (result' : Ty) → Here result'
  by_kind _ (CallsCps to x es r ps g meant is_g cps gets) manner stood result' =
      enters_there p facts names fine given fit bounds wide f known enough begins l owner (piece_shown p facts f known l) lower pointer result frame n at has row w bs c slots slots' stands o store held live to x es r ps g meant is_g cps gets stood manner result'
  by_kind _ (CallsWait to x es prim meant is_prim as_cps no_function) manner stood result' =
      waits_there p facts fine given bounds wide f known enough begins l owner (piece_shown p facts f known l) lower pointer result frame n at has row w bs c slots slots' stands o store held live to x es prim meant is_prim as_cps no_function stood manner result'
  by_kind _ (Submits to x es typed) manner stood result' =
      submits_there p facts names fine given bounds wide f known enough begins l owner (piece_shown p facts f known l) lower pointer result frame n at has row w bs c slots slots' stands o store held live to x es typed stood manner result'

  -- a cps statement
  pub waits : (result' : Ty) (s : Stmt) → at.node.manner ≡ AsCps → at.node.stood ≡ AtStatement (Simple s) → Here result'
  waits result' s manner stood = by_kind s (cps_statements p names f n at.node s at.is_node stood manner (found_typed p facts f known l owner n at slots slots' lower stands (Simple s) stood)) manner stood result'
