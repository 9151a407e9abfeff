-- The pieces of an accepted program do what is asked of them: by what stands at a node, and where they begin.
use Rattle.std.proofs.Common.{◌≡◌, ℕ, ◌+◌, ◌*◌, ◌<◌, ◌≤◌, true, List, length, Option, Some, refl, sym, ◌∙◌, subst, arith}
use Rattle.std.specs.List.{All}
use Rattle.cpc_base.specs.Bytes.{Text}
use Rattle.cpc_store.specs.Store.{Value, Blocks}
use Rattle.cpc_tree.specs.Points.{Simple}
use Rattle.cpc_tree.specs.Registers.{variables}
use Rattle.cpc_tree.specs.Syntax.{Function, Program}
use Rattle.cpc_tree.specs.Typing.{function_named, parameter_types}
use Rattle.cpc_meaning.specs.Agenda.{Agenda}
use Rattle.cpc_meaning.specs.Eval.{Slot}
use Rattle.cpc_meaning.specs.Events.{Callback}
use Rattle.cpc_meaning.specs.Start.{before_underscores}
use Rattle.cpc_meaning.specs.Threads.{is_cps_mode, shown_in}
use Rattle.cpc_forms.specs.Flow.{Place, At}
use Rattle.cpc_forms.specs.Split.{InGraph}
use Rattle.cpc_convert_image_laws.specs.Held.{IsHeldSlot, IsHeldStore, BoxesLive}
use Rattle.cpc_convert_image_laws.specs.Stacks.{frame_of}
use Rattle.cpc_convert_routines.specs.Named.{IsCps, IsOwner}
use Rattle.cpc_convert_routines.specs.Names.{piece_name}
use Rattle.cpc_convert_routines.specs.Routines.{routine_of}
use Rattle.cpc_convert_routines.specs.Nodes.{has_row}
use Rattle.cpc_chains_laws.proofs.Related.Entry.{EntryFacts}
use Rattle.cpc_chains_laws.proofs.Related.Relation.{Shared}
use Rattle.cpc_chains_laws.proofs.Related.Standing.{here}
use Rattle.cpc_check_laws.specs.Kept.Fits.{FitAll}
use Rattle.cpc_lifted_laws.specs.Accepted.Known.{Stays, AreScalar}
use Rattle.cpc_lifted_laws.specs.Piece.Known.{CpsKnown}
use Rattle.cpc_chains_laws.specs.Piece.Rows.{RowAt}
use Rattle.cpc_chains_laws.specs.Piece.Stood.{NodeAt, LocalsStand, Arrives}
use Rattle.cpc_chains_laws.proofs.Piece.Live.{frame_live}
use Rattle.cpc_chains_laws.proofs.Piece.Nodes.{OtherKinds, piece_shown}
use Rattle.cpc_lifted_laws.specs.Arrival.Taken.{IsFine}
use Rattle.cpc_lifted_laws.proofs.Arrival.Split.{leaders_take_values, nodes_take_values}
use Rattle.cpc_chains_laws.proofs.Call.Asking.{asks_there}
use Rattle.cpc_chains_laws.proofs.Call.Entering.{framed_there}
use Rattle.cpc_chains_laws.proofs.Call.Framed.{no_section}
use Rattle.cpc_chains_laws.proofs.Call.Returned.{waiting_at}
use Rattle.cpc_chains_laws.proofs.Call.Spawns.{spawns_there}
use Rattle.cpc_chains_laws.specs.Entry.Taken.{FramesTaken, CallsTaken}
use Rattle.cpc_chains_laws.proofs.Entry.Entries.{entry_facts}
use Rattle.cpc_chains_laws.proofs.Entry.Fine.{sizes_known, call_taken, fine_taken, ArrivesFit}
use Rattle.cpc_chains_laws.specs.Return.Kept.{KeepsBoxes}
use Rattle.cpc_chains_laws.proofs.Return.Kept.{fine_boxes_are_kept}
use Rattle.cpc_chains_laws.proofs.Return.Returns.{ends_there, returns_there}
use Rattle.cpc_lifted_laws.specs.Wait.Asked.{GivenWhereFit}
use Rattle.cpc_chains_laws.proofs.Wait.Waits.{waits}
use Rattle.cpc_lifted_laws.specs.Runs.Bounds.{bounds_of}
use Rattle.cpc_lifted_laws.specs.Runs.Runs.{CallsCps}
use Rattle.cpc_lifted_laws.proofs.Runs.Bounds.{onward_enough, leads_enough, resumes_enough, takes_enough, opens_enough, begins_enough}
use Rattle.cpc_chains_laws.proofs.Runs.Had.{Had}
use Rattle.cpc_chains_laws.proofs.Runs.Join.{setting, PiecesDo}

module _ (p : Program) (had : Had p) where
  -- ---- the beginning of pieces

  arrives_fit : (x : Text) (n : ℕ) (slots : List Slot) (o : Option Value) → IsFine p (frame_of x (InGraph (At n) n) slots) o → ArrivesFit p had.convertible.names had.cps x n o
  arrives_fit x n slots o fine f cps called v e takes =
      leaders_take_values p f (had.cps f cps).found.named cps.mode n slots o (subst (λ y. IsFine p (frame_of y (InGraph (At n) n) slots) o) (sym called) fine) v e takes

  frames_taken : FramesTaken p (IsFine p)
  frames_taken x n slots o fine = fine_taken p had.convertible.names had.cps (Stays p) x n slots o fine.variables (arrives_fit x n slots o fine)

  calls_taken : CallsTaken p (CallsCps p)
  calls_taken x f vs named given =
      let fit = given.0.fit f named in
      call_taken p had.convertible.names x f vs named (given.1 f named) (had.suits f (had.convertible.names.there x f named).0) fit.0 fit.1

  entry : (f : Function) → IsCps p f → EntryFacts (setting p had.known (IsFine p) (CallsCps p)) (bounds_of p)
  entry f cps =
      entry_facts p (IsFine p) (CallsCps p) (bounds_of p) had.cps (λ g c. sizes_known p g (had.suits g c.has).cells) frames_taken calls_taken
      (λ g c. let h = resumes_enough p g c in omega (arith, h)) (λ g c. let h = begins_enough p g c in omega (arith, h)) (takes_enough p) (opens_enough p) f cps

  -- ---- calls in code

  given_fit : GivenWhereFit p (CallsCps p)
  given_fit g vs cps fit scalar held = (
    record { fit = λ h named. let same = one h named in subst (λ (k : Function). FitAll (parameter_types k) vs × AreScalar (parameter_types k)) same (fit, scalar); held = held },
    λ h named. subst (λ (k : Function). is_cps_mode k.mode ≡ true) (one h named) cps.mode,
  )
    where
      one : (h : Function) → function_named p g.called ≡ Some h → g ≡ h
      one h named = let i : Some g ≡ Some h = sym (had.convertible.names.functions g cps.has).found ∙ named in cc

  -- ---- by what stands at a node

  others : (f : Function) (known : CpsKnown p f) (enough : 5 + length (variables f) ≤ (bounds_of p).onward) (begins : 0 < (bounds_of p).leads) (l : Place) (owner : IsOwner (routine_of p f) l)
      (lower pointer result frame : Value) (n : ℕ) (at : NodeAt p f l n) (has : has_row (routine_of p f).split n ≡ true) (row : RowAt p (routine_of p f) l n)
      (w : Shared) (bs : Blocks) (c : Agenda Callback) (slots slots' : List Slot) (stands : LocalsStand p (routine_of p f) l slots slots' lower) (o : Option Value) (arrives : Arrives p (routine_of p f) l n slots' o)
      (store : IsHeldStore (Stays p) w.store) (held : All (IsHeldSlot (Stays p)) slots) (live : BoxesLive w.store slots)
      → IsFine p (frame_of f.called (InGraph l n) slots) o → OtherKinds p had.known (IsFine p) (CallsCps p) (bounds_of p) f known enough begins l owner lower pointer result frame n at has row w bs c slots slots' stands o arrives store held live f.result
  others f known enough begins l owner lower pointer result frame n at has row w bs c slots slots' stands o arrives store held live fine = record {
    calls = λ to g es m i. asks_there p had.known had.convertible (IsFine p) (CallsCps p) (bounds_of p) f known enough begins l owner shown lower pointer result frame n at has row w bs c slots slots' stands o store held live m to g es i f.result;
    sections = λ to g es m i. no_section p f n at.node to g es at.is_node i m;
    spawns = λ g es m i. spawns_there p had.known had.convertible (IsFine p) (CallsCps p) (bounds_of p) (leads_enough p) f known enough begins l owner shown lower pointer result frame n at has row w bs c slots slots' stands o store held live m g es i f.result;
    returns = λ v m i. returns_there p had.known (IsFine p) (CallsCps p) (bounds_of p) f known enough begins l owner shown lower pointer result frame n at has row w bs c slots slots' stands o store held live wide boxes v m i;
    ends = λ i. ends_there p had.known (IsFine p) (CallsCps p) (bounds_of p) f known enough begins l owner shown lower pointer result frame n at has row w bs c slots slots' stands o store held live wide boxes i f.result;
    framed = λ s m i. framed_there p had.known had.convertible (IsFine p) (CallsCps p) (bounds_of p) f known enough begins l owner shown lower pointer result frame n at has row w bs c slots slots' stands o store held live m (Simple s) i f.result;
    waits = λ s m i. waits p had.known had.convertible.names (IsFine p) (CallsCps p) given_fit (bounds_of p) (leads_enough p) f known enough begins l owner lower pointer result frame n at has row w bs c slots slots' stands o arrives store held live f.result s m i;
    arrived = λ x i v e. nodes_take_values p f known.found.named known.found.cps.mode l n slots o fine at.node x at.is_node i has v e;
  }
    where
      shown : before_underscores (piece_name f.called l) ≡ shown_in p f.called
      shown = piece_shown p had.known f known l

      wide : 16 + 3 * length (variables f) ≤ (bounds_of p).leads
      wide = leads_enough p f known.found.cps

      boxes : KeepsBoxes p f l slots
      boxes = fine_boxes_are_kept p f known l n at slots fine.variables

  -- so all pieces do
  pub pieces_do : (f : Function) → IsCps p f → PiecesDo p had.known (IsFine p) (CallsCps p)
  pieces_do f cps = record {
    entry = entry f cps;
    others = λ f known enough begins l owner lower pointer result frame n at has row w bs c slots slots' stands o arrives store held live a below known'. others f known enough begins l owner lower pointer result frame n at has row w bs c slots slots' stands o arrives store held live (known'.running (frame_of f.called (InGraph l n) slots) below o refl);
    waiting = λ g known l m n slots v lower slots' node at call back locals pointer result frame w bs c a below known'.
        let fine = known'.running (frame_of g.called (InGraph l n) slots) below (Some v) refl in
        let live = frame_live (here (setting p had.known (IsFine p) (CallsCps p)) g.called (InGraph l n) slots (Some v) w a below) (frame_of g.called (InGraph l n) slots) below (Some v) refl known'.boxes in
        waiting_at p had.known (IsFine p) (CallsCps p) (bounds_of p) g known (onward_enough p g known.found.cps) (omega arith) l node.owner lower pointer result frame m n node at call back w bs c slots slots' locals v fine.held known'.store fine.variables.held live;
  }
