-- The laws of values that arrive, as statements.
use Rattle.std.specs.Prelude.{◌≡◌, ℕ, true, List, slice_get, Option, Some}
use Rattle.cpc_tree.specs.Points.{Found}
use Rattle.cpc_tree.specs.Syntax.{Function, Program}
use Rattle.cpc_tree.specs.Typing.{function_named}
use Rattle.cpc_store.specs.Store.{Value}
use Rattle.cpc_meaning.specs.Act.{AtArrival}
use Rattle.cpc_meaning.specs.History.{History}
use Rattle.cpc_meaning.specs.Threads.{is_cps_mode}
use Rattle.cpc_meaning.specs.Ways.{AsCps}
use Rattle.cpc_check_laws.specs.Kept.Fits.{Fits}
use Rattle.cpc_forms.specs.Flow.{Place, At}
use Rattle.cpc_forms.specs.Graph.{Node}
use Rattle.cpc_forms.specs.Split.{InGraph, split_form}
use Rattle.cpc_convert_routines.specs.Arriving.{arriving_type}
use Rattle.cpc_convert_routines.specs.Taken.{takes_value}
use Rattle.cpc_convert_routines.specs.Routines.{routine_of}
use Rattle.cpc_convert_routines.specs.Nodes.{has_row}
use Rattle.cpc_meaning.specs.Eval.{Slot}
use Rattle.cpc_convert_image_laws.specs.Held.{IsHeld}
use Rattle.cpc_convert_image_laws.specs.Stacks.{frame_of}
use Rattle.cpc_lifted_laws.specs.Accepted.Known.{Stays}
use Rattle.cpc_lifted_laws.specs.Accepted.Accepted.{OfAccepted}
use Rattle.cpc_lifted_laws.specs.Accepted.Lifted.{lifted_after}
use Rattle.cpc_lifted_laws.specs.Arrival.Arrivals.{CodeTakes, StateTakes}
use Rattle.cpc_lifted_laws.specs.Arrival.Taken.{TakesPosition, IsFine, RunsWell}

-- in each program what arrives at a position is taken there, as far as the code goes
abbrev pub ProgramsTake : Type 0
ProgramsTake = (p : Program) → CodeTakes (split_form p) (TakesPosition p)

-- in each state of the lifted run of an accepted program each frame takes what is to arrive at it
abbrev pub AcceptedTakes : Type 0
AcceptedTakes = OfAccepted (λ p. (h : History) (n : ℕ) → StateTakes (split_form p) (TakesPosition p) (lifted_after p h n))

-- so it is known what the rows of the conversion ask of the frame that runs, and of the item that is taken next
abbrev pub AcceptedRunsWell : Type 0
AcceptedRunsWell = OfAccepted (λ p. (h : History) (n : ℕ) → RunsWell p (lifted_after p h n))

-- a value that is taken where a leader puts it somewhere is one of the type of the leader's frames
abbrev pub TakenValuesFit : Type 0
TakenValuesFit =
    (p : Program) (f : Function) → function_named p f.called ≡ Some f → is_cps_mode f.mode ≡ true → (n : ℕ) (v : Value)
    → TakesPosition p f.called (InGraph (At n) n) v → takes_value (routine_of p f) (At n) ≡ true → Fits (arriving_type p (routine_of p f) (At n)) v

-- a value that is taken at an arrival that has a row of its own is that of a cps statement
abbrev pub TakenValuesWaited : Type 0
TakenValuesWaited =
    (p : Program) (f : Function) → function_named p f.called ≡ Some f → is_cps_mode f.mode ≡ true → (l : Place) (n : ℕ) (node : Node) (x : Found) (v : Value)
    → slice_get (routine_of p f).split.graph.nodes n ≡ Some node → node.stood ≡ AtArrival x → has_row (routine_of p f).split n ≡ true → TakesPosition p f.called (InGraph l n) v → node.manner ≡ AsCps

-- so it is of the value that arrives at a frame that a leader takes up
abbrev pub LeadersTakeValues : Type 0
LeadersTakeValues =
    (p : Program) (f : Function) → function_named p f.called ≡ Some f → is_cps_mode f.mode ≡ true → (n : ℕ) (slots : List Slot) (o : Option Value)
    → IsFine p (frame_of f.called (InGraph (At n) n) slots) o → (v : Value) → o ≡ Some v → takes_value (routine_of p f) (At n) ≡ true → Fits (arriving_type p (routine_of p f) (At n)) v

-- and of one at a frame whose node has a row of its own: it is held besides
abbrev pub NodesTakeValues : Type 0
NodesTakeValues =
    (p : Program) (f : Function) → function_named p f.called ≡ Some f → is_cps_mode f.mode ≡ true → (l : Place) (n : ℕ) (slots : List Slot) (o : Option Value) → IsFine p (frame_of f.called (InGraph l n) slots) o
    → (node : Node) (x : Found) → slice_get (routine_of p f).split.graph.nodes n ≡ Some node → node.stood ≡ AtArrival x → has_row (routine_of p f).split n ≡ true
    → (v : Value) → o ≡ Some v → IsHeld (Stays p) v × (node.manner ≡ AsCps)
