-- What stands at a node is left in its manner; a call that is left over a frame has its value arrive at a node of its own.
use Rattle.std.proofs.Common.{◌≡◌, ℕ, slice_get, Option, Some, option_map, refl, sym, ◌∙◌, ap, subst}
use Rattle.cpc_base.specs.Bytes.{Text}
use Rattle.cpc_tree.specs.Points.{Path, Point, Here, Arrival, End, Found, Simple, found}
use Rattle.cpc_tree.specs.Registers.{scope_in_function}
use Rattle.cpc_tree.specs.Syntax.{Expr, Exprs, Call, Detach, Function, Program}
use Rattle.cpc_tree.specs.Typing.{Scope}
use Rattle.cpc_meaning.specs.Act.{AtStatement, AtArrival}
use Rattle.cpc_meaning.specs.Ways.{InPlace, ByFrame, AsCps, arrives_later, only_if, manner_of, manner_at}
use Rattle.cpc_forms.specs.Graph.{Node, node_of, graph_of}
use Rattle.cpc_forms.specs.Order.{number_of}
use Rattle.cpc_graph_laws.proofs.Controls.{later_in}
use Rattle.cpc_graph_laws.proofs.Formed.{node_comes}
use Rattle.cpc_graph_laws.proofs.Graphs.{node_found}
use Rattle.cpc_graph_laws.proofs.MoreFacts.{arrivals_stay}
use Rattle.cpc_chains_laws.proofs.Piece.Filled.{what_stands, no_arrival, no_end}
use Rattle.cpc_chains_laws.specs.Call.Laws.{FramedNode, FramedCallsArrive, NodesHaveManners}

-- what is left over a frame is a call
pub framed_call : (p : Program) (scope : Scope) (x : Found) → manner_of p scope x ≡ ByFrame → (to : Option Expr) × (g : Expr) × (es : Exprs) × (x ≡ Simple (Call to g es))
framed_call p scope (Simple (Call to g es)) e = (to, g, es, refl)
framed_call p scope (Simple (Detach to g es)) e = absurd (cc)
framed_call p scope x e = absurd (cc)

module _ (p : Program) (f : Function) where
  point_manner : (point : Point) (x : Found) → (node_of p f point).stood ≡ AtStatement x → (node_of p f point).manner ≡ manner_of p (node_of p f point).scope x
  point_manner (Here path) x e = ap (manner_of p (scope_in_function f path)) (ap what_stands e)
  point_manner (Arrival path) x e = absurd (no_arrival (found f.body path) x e)
  point_manner End x e = absurd (no_end x e)

  module _ (n : ℕ) where
    framed_here : (path : Path) → slice_get (graph_of p f).nodes n ≡ Some (node_of p f (Here path)) → manner_at p f path ≡ ByFrame → FramedNode p f n (node_of p f (Here path))
    framed_here path there e =
        let call = framed_call p (scope_in_function f path) (found f.body path) e in
        let goes = ap (λ m. option_map (number_of f.body) (only_if (arrives_later m) (Some (Arrival path)))) e in
        record {
          target = call.0;
          function = call.1;
          arguments = call.2;
          stands = ap (λ x. AtStatement x) call.3;
          arrival = number_of f.body (Arrival path);
          is_arrival = goes;
          there = node_of p f (Arrival path);
          is_there = node_found p f (Arrival path) (later_in p f path (ap arrives_later e));
          arrives = ap (λ x. AtArrival x) call.3;
          scope = refl;
          manner = e;
          owner = (arrivals_stay p f n (number_of f.body (Arrival path)) (node_of p f (Here path)) there e goes).2;
        }

    framed_point : (point : Point) (x : Found) → slice_get (graph_of p f).nodes n ≡ Some (node_of p f point) → (node_of p f point).stood ≡ AtStatement x → (node_of p f point).manner ≡ ByFrame → FramedNode p f n (node_of p f point)
    framed_point (Here path) x there e m = framed_here path there m
    framed_point (Arrival path) x there e m = absurd (no_arrival (found f.body path) x e)
    framed_point End x there e m = absurd (no_end x e)

pub nodes_have_manners : NodesHaveManners
nodes_have_manners p f n node x there stood =
    let from = node_comes p f n node there in
    subst (λ (k : Node). k.stood ≡ AtStatement x → k.manner ≡ manner_of p k.scope x) from.2 (point_manner p f from.0 x) stood

pub framed_calls_arrive : FramedCallsArrive
framed_calls_arrive p f n node x there stood manner =
    let from = node_comes p f n node there in
    subst (λ (k : Node). slice_get (graph_of p f).nodes n ≡ Some k → k.stood ≡ AtStatement x → k.manner ≡ ByFrame → FramedNode p f n k) from.2 (framed_point p f n from.0 x) there stood manner

-- no section is in place
pub no_section : {A : Type 0} → (p : Program) (f : Function) (n : ℕ) (node : Node) (to : Option Expr) (g : Text) (es : Exprs) → slice_get (graph_of p f).nodes n ≡ Some node → node.stood ≡ AtStatement (Simple (Detach to g es)) → node.manner ≡ InPlace → A
no_section p f n node to g es there stood manner = absurd (let e : InPlace ≡ AsCps = sym manner ∙ nodes_have_manners p f n node (Simple (Detach to g es)) there stood in cc)
