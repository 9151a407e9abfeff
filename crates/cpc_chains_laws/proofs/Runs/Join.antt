-- The event program of an accepted program follows its threads, where its pieces do what is asked of them.
use Rattle.std.proofs.Common.{◌≡◌, ℕ, ◌+◌, ◌*◌, ◌<◌, ◌≤◌, true, List, [], length, Option, Some, refl, sym, ◌∙◌, subst, arith}
use Rattle.std.specs.List.{All}
use Rattle.cpc_base.specs.Bytes.{Text}
use Rattle.cpc_store.specs.Store.{Value, Blocks}
use Rattle.cpc_tree.specs.Points.{Point}
use Rattle.cpc_tree.specs.Registers.{variables}
use Rattle.cpc_tree.specs.Syntax.{Function, Program}
use Rattle.cpc_tree.specs.Trace.{is_over}
use Rattle.cpc_meaning_matching.specs.Simulation.{Follows, one}
use Rattle.cpc_meaning_matching.proofs.Systems.{matches_live, matches_times}
use Rattle.cpc_meaning.specs.Act.{act}
use Rattle.cpc_meaning.specs.Agenda.{Agenda}
use Rattle.cpc_meaning.specs.Eval.{Slot}
use Rattle.cpc_meaning.specs.Events.{Callback}
use Rattle.cpc_meaning.specs.Matching.{thread_system, event_system, RunsNeverStuck}
use Rattle.cpc_meaning.specs.Plain.{Frame as CallFrame, context}
use Rattle.cpc_meaning.specs.Runs.{SameRuns, Within, cost}
use Rattle.cpc_meaning.specs.Start.{main_name}
use Rattle.cpc_meaning.specs.Threads.{Thread, Pending, threads_of}
use Rattle.cpc_meaning.specs.Trees.{trees}
use Rattle.cpc_meaning.proofs.Connect.{machine_ends, simulation_makes_same_runs, simulation_within_cost}
use Rattle.cpc_forms.specs.Flow.{Place}
use Rattle.cpc_forms.specs.Split.{Position, InGraph, split_form}
use Rattle.cpc_convert_image_laws.specs.Held.{IsHeldSlot, IsHeldStore, BoxesLive}
use Rattle.cpc_convert_image_laws.specs.Stacks.{frame_of}
use Rattle.cpc_convert_flat_laws.specs.Walks.{frame_at}
use Rattle.cpc_chains_event.specs.Converted.{converted}
use Rattle.cpc_convert_routines.specs.Named.{IsCps, IsOwner}
use Rattle.cpc_convert_routines.specs.Names.{piece_name}
use Rattle.cpc_convert_routines.specs.Routines.{routine_of}
use Rattle.cpc_convert_routines.specs.Nodes.{has_row}
use Rattle.cpc_chains_laws.proofs.Related.Entry.{EntryFacts}
use Rattle.cpc_chains_laws.proofs.Related.Inside.{PieceAt}
use Rattle.cpc_chains_laws.proofs.Related.Joined.{RowFacts}
use Rattle.cpc_chains_laws.proofs.Related.Onwards.{Beside}
use Rattle.cpc_chains_laws.proofs.Related.Relation.{Shared}
use Rattle.cpc_chains_laws.proofs.Related.Setting.{Setting, Known}
use Rattle.cpc_chains_laws.proofs.Related.Standing.{here}
use Rattle.cpc_lifted_laws.specs.Accepted.Known.{Stays}
use Rattle.cpc_lifted_laws.specs.Accepted.Lifted.{lifted_threads}
use Rattle.cpc_lifted_laws.proofs.Accepted.Lifted.{threads_follow}
use Rattle.cpc_lifted_laws.specs.Native.Convertible.{Convertible}
use Rattle.cpc_lifted_laws.specs.Native.Instance.{may_be}
use Rattle.cpc_chains_laws.proofs.Native.Instances.{PieceFacts, row_facts}
use Rattle.cpc_lifted_laws.specs.Piece.Known.{CpsKnown}
use Rattle.cpc_chains_laws.specs.Piece.Known.{ProgramKnown}
use Rattle.cpc_chains_laws.specs.Piece.Rows.{RowAt}
use Rattle.cpc_chains_laws.specs.Piece.Stood.{NodeAt, LocalsStand, Arrives, CallAt, call_point, Stood, AtRow, AtCall}
use Rattle.cpc_chains_laws.proofs.Piece.Keeps.{keeps_facts}
use Rattle.cpc_chains_laws.proofs.Piece.Live.{frame_live}
use Rattle.cpc_chains_laws.proofs.Piece.Nodes.{OtherKinds, piece_shown, node_there}
use Rattle.cpc_chains_laws.proofs.Piece.Onwards.{z}
use Rattle.cpc_chains_laws.proofs.Piece.Rowed.{DoesHere}
use Rattle.cpc_chains_laws.proofs.Call.Arrivals.{arrivals}
use Rattle.cpc_lifted_laws.specs.Runs.Bounds.{bounds_of}
use Rattle.cpc_lifted_laws.proofs.Runs.Bounds.{onward_enough, spawns_enough}
use Rattle.cpc_chains_laws.proofs.Runs.Locals.{stood_thin}

module _ (p : Program) (facts : ProgramKnown p) (fine : CallFrame Position → Option Value → Type 0) (given : Text → List Value → Type 0) where
  -- the setting, with the bounds of the program
  abbrev pub setting : Setting
  setting = z p fine given (bounds_of p)

  -- where control may begin in a piece
  abbrev pub Begins : Type 0
  Begins = 0 < (bounds_of p).leads

  -- what the pieces of all functions do: they begin, and they do what the source does at a node of any kind, also where the value of a native call arrives
  pub record PiecesDo : Type 0 where
    pub entry : EntryFacts setting (bounds_of p)
    pub others : (f : Function) (known : CpsKnown p f) (enough : 5 + length (variables f) ≤ (bounds_of p).onward) (begins : Begins) (l : Place) (owner : IsOwner (routine_of p f) l)
        (lower pointer result frame : Value) (n : ℕ) (at : NodeAt p f l n) (has : has_row (routine_of p f).split n ≡ true) (row : RowAt p (routine_of p f) l n)
        (w : Shared) (bs : Blocks) (c : Agenda Callback) (slots slots' : List Slot) (stands : LocalsStand p (routine_of p f) l slots slots' lower) (o : Option Value) (arrives : Arrives p (routine_of p f) l n slots' o)
        (store : IsHeldStore (Stays p) w.store) (held : All (IsHeldSlot (Stays p)) slots) (live : BoxesLive w.store slots) (a : Agenda (Thread Position)) (below : List (CallFrame Position))
        → Known setting (here setting f.called (InGraph l n) slots o w a below)
        → OtherKinds p facts fine given (bounds_of p) f known enough begins l owner lower pointer result frame n at has row w bs c slots slots' stands o arrives store held live f.result
    pub waiting : (g : Function) (known : CpsKnown p g) (l : Place) (m n : ℕ) (slots : List Slot) (v lower : Value) (slots' : List Slot) (node : NodeAt p g l n) (at : RowAt p (routine_of p g) l m) (call : CallAt p g l m at)
        → call.node.node.arrival ≡ Some n → LocalsStand p (routine_of p g) l slots slots' lower
        → (pointer result frame : Value) (w : Shared) (bs : Blocks) (c : Agenda Callback) (a : Agenda (Thread Position)) (below : List (CallFrame Position))
        → Known setting (here setting g.called (InGraph l n) slots (Some v) w a below)
        → PieceAt setting (bounds_of p) g.called l lower pointer result frame w bs c n slots (Some v) (frame_at (piece_name g.called l) (call_point p g l m at call) slots') (Some v)

  -- what is known of frames that run
  pub record FineSays : Type 0 where
    pub stands : (frame : CallFrame Position) (o : Option Value) → fine frame o → may_be p frame.function frame.point ≡ true
    pub held : (frame : CallFrame Position) (o : Option Value) → fine frame o → All (IsHeldSlot (Stays p)) frame.slots

  module _ (cps : (f : Function) → IsCps p f → CpsKnown p f) (says : FineSays) (does : PiecesDo) where
    -- a piece, wherever it stands
    pieces : (f : Text) (l : Place) (lower pointer result frame : Value) (w : Shared) (bs : Blocks) (c : Agenda Callback) (n : ℕ) (slots : List Slot) (o : Option Value) (piece : CallFrame Point) (o' : Option Value) (a : Agenda (Thread Position)) (below : List (CallFrame Position))
        → Stood p f l n slots o lower piece o' → Beside setting bs a c below lower → Known setting (here setting f (InGraph l n) slots o w a below) → PieceAt setting (bounds_of p) f l lower pointer result frame w bs c n slots o piece o'
    pieces _ _ _ pointer result frame w bs c _ _ _ _ _ a below (AtRow g l n slots o lower slots' is node has at locals arrives) beside known =
        let enough = onward_enough p g is.cps in
        let begins : Begins = omega arith in
        let own = cps g is.cps in
        let held = says.held (frame_of g.called (InGraph l n) slots) o (known.running (frame_of g.called (InGraph l n) slots) below o refl) in
        let live = frame_live (here setting g.called (InGraph l n) slots o w a below) (frame_of g.called (InGraph l n) slots) below o refl known.boxes in
        let others = does.others g own enough begins l node.owner lower pointer result frame n node has at w bs c slots slots' locals o arrives known.store held live a below known in
        let there = node_there p facts fine given (bounds_of p) g own enough begins l node.owner lower pointer result frame n node has at w bs c slots slots' locals o arrives known.store held live g.result others in
        record {
          shown = piece_shown p facts g own l;
          does = λ h named.
              let same : g ≡ h = let i : Some g ≡ Some h = sym is.named ∙ named in cc in
              subst (λ (k : Function). DoesHere p fine given (bounds_of p) g own enough begins l node.owner (piece_shown p facts g own l) lower pointer result frame n node has at w bs c slots slots' o
              (act (context (split_form p) w.store (frame_of g.called (InGraph l n) slots)) k.result o ((split_form p).code.stood g.called (InGraph l n)))) same there;
        }
    pieces _ _ _ pointer result frame w bs c _ _ _ _ _ a below (AtCall g l m n slots v lower slots' is node at call back locals) beside known =
        does.waiting g (cps g is.cps) l m n slots v lower slots' node at call back locals pointer result frame w bs c a below known

    module _ (convertible : Convertible p) where
      piece_facts : PieceFacts setting (bounds_of p)
      piece_facts = record { keeps = keeps_facts p convertible.names convertible.named (bounds_of p) fine given; entry = does.entry; pieces = pieces; thin = stood_thin p convertible.named cps; arrivals = arrivals p }

      pub rows : RowFacts setting (bounds_of p)
      rows = row_facts p convertible (Stood p) fine given (bounds_of p) (spawns_enough p) (omega arith) says.stands piece_facts

-- where it follows the lifted machine it follows the threads as they are written, so their runs are the same within the cost
module _ (p : Program) (lifted : Follows is_over (lifted_threads p) (event_system (trees (converted p))) (λ s. cost p) one) where
  threads : Follows is_over (thread_system (trees p)) (event_system (trees (converted p))) (λ s. 1 * cost p) one
  threads = record {
    on = λ h live.
        let first = (threads_follow p).text.on h live in
        matches_times first (lifted.on h (matches_live (machine_ends (threads_of (trees p)) (Pending main_name []) h) first live));
  }

  pub same_runs : RunsNeverStuck p → SameRuns p (converted p) × Within p (converted p)
  same_runs live =
      (simulation_makes_same_runs p (converted p) (λ s. 1 * cost p) one live threads, simulation_within_cost p (converted p) (λ s. 1 * cost p) (λ s. omega arith) live threads)
