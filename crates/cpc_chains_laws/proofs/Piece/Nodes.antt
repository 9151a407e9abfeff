-- What a piece does before the row of a node, by what stands there. What is proved of other kinds of statements is asked for.
use Rattle.std.proofs.Common.{◌≡◌, ℕ, ◌+◌, ◌<◌, ◌≤◌, true, List, length, Option, Some, None, refl, sym, ◌∙◌, ap, subst}
use Rattle.std.specs.List.{All}
use Rattle.cpc_base.specs.Bytes.{Text}
use Rattle.cpc_tree.specs.Points.{Found, Simple, Test, Nothing}
use Rattle.cpc_tree.specs.Registers.{variables}
use Rattle.cpc_tree.specs.Syntax.{Ty, Expr, Exprs, Stmt, Declare, Assign, Call, Detach, Spawn, Return, Function, Program}
use Rattle.cpc_store.specs.Store.{Value, Blocks}
use Rattle.cpc_meaning.specs.Act.{Stood, AtStatement, AtArrival, AtEnd, act}
use Rattle.cpc_meaning.specs.Agenda.{Agenda}
use Rattle.cpc_meaning.specs.Eval.{Slot}
use Rattle.cpc_meaning.specs.Events.{Callback}
use Rattle.cpc_meaning.specs.Plain.{Frame as CallFrame, context}
use Rattle.cpc_meaning.specs.Start.{before_underscores}
use Rattle.cpc_meaning.specs.Threads.{shown_in}
use Rattle.cpc_meaning.specs.Ways.{Manner, InPlace, ByFrame, AsCps}
use Rattle.cpc_convert_image_laws.specs.Held.{IsHeld, IsHeldSlot, IsHeldStore, BoxesLive}
use Rattle.cpc_convert_image_laws.specs.Stacks.{frame_of}
use Rattle.cpc_forms.specs.Flow.{Place}
use Rattle.cpc_forms.specs.Split.{Position, InGraph, split_form}
use Rattle.cpc_convert_routines.specs.Named.{IsOwner}
use Rattle.cpc_convert_routines.specs.Names.{piece_name}
use Rattle.cpc_convert_routines.specs.Routines.{routine_of}
use Rattle.cpc_convert_routines.specs.Nodes.{has_row}
use Rattle.cpc_chains_event.proofs.Apart.{behind, piece_is}
use Rattle.cpc_lifted_laws.specs.Accepted.Known.{Stays}
use Rattle.cpc_lifted_laws.specs.Related.Bounds.{Bounds}
use Rattle.cpc_chains_laws.proofs.Related.Inside.{Sticks, PieceAt}
use Rattle.cpc_chains_laws.proofs.Related.Relation.{Shared}
use Rattle.cpc_lifted_laws.specs.Piece.Known.{CpsKnown}
use Rattle.cpc_chains_laws.specs.Piece.Known.{ProgramKnown}
use Rattle.cpc_chains_laws.specs.Piece.Rows.{RowAt}
use Rattle.cpc_chains_laws.specs.Piece.Stood.{NodeAt, LocalsStand, Arrives}
use Rattle.cpc_chains_laws.proofs.Piece.Acting.{source_act}
use Rattle.cpc_chains_laws.proofs.Piece.Arrivals.{none_there, one_there}
use Rattle.cpc_chains_laws.proofs.Piece.InPlace.{assigns_there, declares_there}
use Rattle.cpc_chains_laws.proofs.Piece.Onwards.{z}
use Rattle.cpc_chains_laws.proofs.Piece.Passes.{idles_there, no_test_there}
use Rattle.cpc_chains_laws.proofs.Piece.Rowed.{DoesHere, standing_piece}
use Rattle.cpc_chains_laws.proofs.Piece.Tests.{tests_there}
use Rattle.cpc_chains_laws.proofs.Piece.TestWays.{test_goes}

-- a fault names a piece as it names its function
pub piece_shown : (p : Program) → ProgramKnown p → (f : Function) → CpsKnown p f → (l : Place) → before_underscores (piece_name f.called l) ≡ shown_in p f.called
piece_shown p facts f known l = ap before_underscores (piece_is f.called l) ∙ facts.shown.made f.called f known.found.named known.found.cps.mode (behind l)

module _ (p : Program) (facts : ProgramKnown p) (fine : CallFrame Position → Option Value → Type 0) (given : Text → List Value → Type 0) (bounds : Bounds) (f : Function) (known : CpsKnown p f) (enough : 5 + length (variables f) ≤ bounds.onward) (begins : 0 < bounds.leads) (l : Place) (owner : IsOwner (routine_of p f) l)
    (lower pointer result frame : Value)
    (n : ℕ) (at : NodeAt p f l n) (has : has_row (routine_of p f).split n ≡ true) (row : RowAt p (routine_of p f) l n)
    (w : Shared) (bs : Blocks) (c : Agenda Callback) (slots slots' : List Slot) (stands : LocalsStand p (routine_of p f) l slots slots' lower) (o : Option Value) (arrives : Arrives p (routine_of p f) l n slots' o)
    (store : IsHeldStore (Stays p) w.store) (held : All (IsHeldSlot (Stays p)) slots) (live : BoxesLive w.store slots) where
  abbrev shown : before_underscores (piece_name f.called l) ≡ shown_in p f.called
  shown = piece_shown p facts f known l

  -- the piece does what the source does, in a function with this result
  abbrev pub There : Ty → Type 0
  There result' = DoesHere p fine given bounds f known enough begins l owner shown lower pointer result frame n at has row w bs c slots slots' o (act (context (split_form p) w.store (frame_of f.called (InGraph l n) slots)) result' o ((split_form p).code.stood f.called (InGraph l n)))

  -- what is known of the other kinds: calls, sections and spawns in place, returns and the end, calls that are left over a frame, cps statements; and
  -- that what arrives is held, and arrives from a cps statement
  pub record OtherKinds (result' : Ty) : Type 0 where
    pub calls : (to : Option Expr) (g : Expr) (es : Exprs) → at.node.manner ≡ InPlace → at.node.stood ≡ AtStatement (Simple (Call to g es)) → There result'
    pub sections : (to : Option Expr) (g : Text) (es : Exprs) → at.node.manner ≡ InPlace → at.node.stood ≡ AtStatement (Simple (Detach to g es)) → There result'
    pub spawns : (g : Text) (es : Exprs) → at.node.manner ≡ InPlace → at.node.stood ≡ AtStatement (Simple (Spawn g es)) → There result'
    pub returns : (v : Option Expr) → at.node.manner ≡ InPlace → at.node.stood ≡ AtStatement (Simple (Return v)) → There result'
    pub ends : at.node.stood ≡ AtEnd → There result'
    pub framed : (s : Stmt) → at.node.manner ≡ ByFrame → at.node.stood ≡ AtStatement (Simple s) → There result'
    pub waits : (s : Stmt) → at.node.manner ≡ AsCps → at.node.stood ≡ AtStatement (Simple s) → There result'
    pub arrived : (x : Found) → at.node.stood ≡ AtArrival x → (v : Value) → o ≡ Some v → IsHeld (Stays p) v × (at.node.manner ≡ AsCps)

  module _ (result' : Ty) (others : OtherKinds result') where
    in_place_there : (s : Stmt) → at.node.manner ≡ InPlace → at.node.stood ≡ AtStatement (Simple s) → There result'
    in_place_there (Declare x t (Some e)) m i = declares_there p facts fine given bounds f known enough begins l owner shown lower pointer result frame n at has row w bs c slots slots' stands o store held live m x t e i result'
    in_place_there (Declare x t None) m i = idles_there p facts fine given bounds f known enough begins l owner shown lower pointer result frame n at has row w bs c slots slots' stands o (Declare x t None) refl m i result'
    in_place_there (Assign e op v) m i = assigns_there p facts fine given bounds f known enough begins l owner shown lower pointer result frame n at has row w bs c slots slots' stands o store held live m e op v i result'
    in_place_there (Call to g es) m i = others.calls to g es m i
    in_place_there (Detach to g es) m i = others.sections to g es m i
    in_place_there (Spawn g es) m i = others.spawns g es m i
    in_place_there (Return v) m i = others.returns v m i
    in_place_there s m i = idles_there p facts fine given bounds f known enough begins l owner shown lower pointer result frame n at has row w bs c slots slots' stands o s refl m i result'

    by_manner : (s : Stmt) (m : Manner) → at.node.manner ≡ m → at.node.stood ≡ AtStatement (Simple s) → There result'
    by_manner s InPlace m i = in_place_there s m i
    by_manner s ByFrame m i = others.framed s m i
    by_manner s AsCps m i = others.waits s m i

    value_there : (x : Found) → at.node.stood ≡ AtArrival x → (v : Option Value) → o ≡ v → There result'
    value_there x i None e =
        subst (λ u. DoesHere p fine given bounds f known enough begins l owner shown lower pointer result frame n at has row w bs c slots slots' u (act (context (split_form p) w.store (frame_of f.called (InGraph l n) slots)) result' u ((split_form p).code.stood f.called (InGraph l n)))) (sym e)
        (none_there p facts fine given bounds f known enough begins l owner shown lower pointer result frame n at has row w bs c slots slots' stands store held live x i result')
    value_there x i (Some v) e =
        let arrived = others.arrived x i v e in
        subst (λ u. DoesHere p fine given bounds f known enough begins l owner shown lower pointer result frame n at has row w bs c slots slots' u (act (context (split_form p) w.store (frame_of f.called (InGraph l n) slots)) result' u ((split_form p).code.stood f.called (InGraph l n)))) (sym e)
        (one_there p facts fine given bounds f known enough begins l owner shown lower pointer result frame n at has row w bs c slots slots' stands store held live x i v arrived.0 (subst (Arrives p (routine_of p f) l n slots') e arrives) arrived.1 result')

    stood_there : (s : Stood) → at.node.stood ≡ s → There result'
    stood_there AtEnd i = others.ends i
    stood_there (AtArrival x) i = value_there x i o refl
    stood_there (AtStatement Nothing) i =
        subst (DoesHere p fine given bounds f known enough begins l owner shown lower pointer result frame n at has row w bs c slots slots' o) (sym (source_act p facts f known l owner n at slots slots' lower stands w result' o (AtStatement Nothing) i)) Sticks
    stood_there (AtStatement (Test None)) i = no_test_there p facts fine given bounds f known enough begins l owner shown lower pointer result frame n at has row w bs c slots slots' stands o i result'
    stood_there (AtStatement (Test (Some e))) i = let way = test_goes p f known.stays e n at.node at.is_node i in tests_there p facts fine given bounds f known enough begins l owner shown lower pointer result frame n at has row w bs c slots slots' stands o store held live e i way.0 way.1 result'
    stood_there (AtStatement (Simple s)) i = by_manner s at.node.manner refl i

    pub node_there : There result'
    node_there = stood_there at.node.stood refl

  -- the piece of the rows
  pub piece_at : ((result' : Ty) → OtherKinds result') → PieceAt (z p fine given bounds) bounds f.called l lower pointer result frame w bs c n slots o (standing_piece p fine given bounds f known enough begins l owner shown lower pointer result frame n at has row slots') None
  piece_at others = record { shown = shown; does = λ g named. node_there g.result (others g.result) }
