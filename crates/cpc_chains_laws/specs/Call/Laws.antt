-- What is known of calls that are left over a frame, as statements.
use Rattle.std.specs.Prelude.{◌≡◌, ℕ, slice_get, Option, Some}
use Rattle.cpc_tree.specs.Points.{Found, Simple}
use Rattle.cpc_tree.specs.Syntax.{Expr, Exprs, Call, Function, Program}
use Rattle.cpc_meaning.specs.Act.{AtStatement, AtArrival}
use Rattle.cpc_meaning.specs.Ways.{ByFrame, manner_of}
use Rattle.cpc_forms.specs.Flow.{owner_of}
use Rattle.cpc_forms.specs.Graph.{Node, graph_of}
use Rattle.cpc_graph_laws.specs.Laws.{flow_in}

-- a node at which a call is left over a frame: its value arrives at a node of its own, with the same names in scope, in the piece of the call
pub record FramedNode (p : Program) (f : Function) (n : ℕ) (node : Node) : Type 0 where
  pub target : Option Expr
  pub function : Expr
  pub arguments : Exprs
  pub stands : node.stood ≡ AtStatement (Simple (Call target function arguments))
  pub arrival : ℕ
  pub is_arrival : node.arrival ≡ Some arrival
  pub there : Node
  pub is_there : slice_get (graph_of p f).nodes arrival ≡ Some there
  pub arrives : there.stood ≡ AtArrival (Simple (Call target function arguments))
  pub scope : there.scope ≡ node.scope
  pub manner : there.manner ≡ ByFrame
  pub owner : owner_of (flow_in p f) arrival ≡ owner_of (flow_in p f) n

-- a statement that is left over a frame is a call, whose value arrives so
abbrev pub FramedCallsArrive : Type 0
FramedCallsArrive =
    (p : Program) (f : Function) (n : ℕ) (node : Node) (x : Found) → slice_get (graph_of p f).nodes n ≡ Some node → node.stood ≡ AtStatement x → node.manner ≡ ByFrame
    → FramedNode p f n node

-- what stands at a node is left in its manner
abbrev pub NodesHaveManners : Type 0
NodesHaveManners =
    (p : Program) (f : Function) (n : ℕ) (node : Node) (x : Found) → slice_get (graph_of p f).nodes n ≡ Some node → node.stood ≡ AtStatement x
    → node.manner ≡ manner_of p node.scope x
