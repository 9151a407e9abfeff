-- Where control goes in split graphs, as statements.
use Rattle.std.specs.Prelude.{◌≡◌, ℕ, Bool, true, slice_get, Option, Some, None, option_map}
use Rattle.cpc_base.specs.Bytes.{Text}
use Rattle.cpc_tree.specs.Syntax.{Function, Program}
use Rattle.cpc_tree.specs.Typing.{function_named}
use Rattle.cpc_tree.specs.Points.{Point, Found}
use Rattle.cpc_meaning.specs.Act.{AtStatement}
use Rattle.cpc_meaning.specs.Threads.{is_cps_mode}
use Rattle.cpc_meaning.specs.Ways.{ByFrame, AsCps}
use Rattle.cpc_forms.specs.Graph.{Node, graph_of, graphs, way}
use Rattle.cpc_forms.specs.Flow.{Place, At, is_leader, owner_of, owner_by}
use Rattle.cpc_forms.specs.Split.{split_of, Position, InTree, InGraph, position_goes, position_arrival, split_form}
use Rattle.cpc_graph_laws.specs.Laws.{flow_in}

-- control goes to a leader, in its own piece, or stays in the piece
abbrev pub PositionsGoOn : Type 0
PositionsGoOn =
    (p : Program) (f : Function) (goes : Point → Option Point) (l : Place) (n : ℕ) (node : Node) (h : Bool) → slice_get (graph_of p f).nodes n ≡ Some node → owner_of (flow_in p f) n ≡ Some l
    → position_goes goes (Some (split_of (graph_of p f))) (InGraph l n) h ≡ option_map (λ m. InGraph (owner_by (is_leader (flow_in p f) m) l m) m) (way node h)

-- the value of a call that is left over a frame arrives in the piece
abbrev pub CallsArrive : Type 0
CallsArrive =
    (p : Program) (f : Function) (arrival : Point → Option Point) (l : Place) (n : ℕ) (node : Node) → slice_get (graph_of p f).nodes n ≡ Some node → owner_of (flow_in p f) n ≡ Some l → node.manner ≡ ByFrame
    → position_arrival arrival (Some (split_of (graph_of p f))) (InGraph l n) ≡ option_map (InGraph l) node.arrival

-- that of a cps statement arrives at a leader, in its own piece
abbrev pub WaitsArrive : Type 0
WaitsArrive =
    (p : Program) (f : Function) (arrival : Point → Option Point) (l : Place) (n : ℕ) (node : Node) (x : Found) → slice_get (graph_of p f).nodes n ≡ Some node → node.stood ≡ AtStatement x → node.manner ≡ AsCps
    → position_arrival arrival (Some (split_of (graph_of p f))) (InGraph l n) ≡ option_map (λ m. InGraph (At m) m) node.arrival

-- ---- the positions that are reached

-- a position at which code of a name may stand: a point where there is no graph, or a node of its graph with the node's owner
pub data IsHeld (p : Program) (x : Text) : Position → Type 0 where
  OutOfGraphs : (point : Point) → graphs p x ≡ None → IsHeld p x (InTree point)
  OwnedNode : (f : Function) (l : Place) (n : ℕ) (node : Node) → function_named p x ≡ Some f → is_cps_mode f.mode ≡ true → slice_get (graph_of p f).nodes n ≡ Some node → owner_of (flow_in p f) n ≡ Some l
      → IsHeld p x (InGraph l n)

-- code begins at such a position, goes on to such positions, and waits at such positions
abbrev pub PositionsAreHeld : Type 0
PositionsAreHeld =
    (p : Program) (x : Text)
    → IsHeld p x ((split_form p).code.first x)
    × ((at to : Position) (h : Bool) → IsHeld p x at → (split_form p).code.goes x at h ≡ Some to → IsHeld p x to)
    × ((at to : Position) → IsHeld p x at → (split_form p).code.arrival x at ≡ Some to → IsHeld p x to)
