-- Split code stands at nodes with their owners alone.
use Rattle.std.proofs.Common.{◌≡◌, Bool, true, false, slice_get, Option, Some, None, refl, sym, ◌∙◌, ap, subst}
use Rattle.cpc_base.specs.Bytes.{Text}
use Rattle.cpc_tree.specs.Syntax.{Function, Program}
use Rattle.cpc_tree.specs.Typing.{function_named}
use Rattle.cpc_meaning.specs.Threads.{is_cps_mode}
use Rattle.cpc_meaning.proofs.Meeting.{BothSome, SomeBoth, NoneBoth}
use Rattle.cpc_forms.specs.Graph.{Graph, graph_of, graph_if, graph_where, graphs, Station, AtPoint, AtNode}
use Rattle.cpc_forms.specs.Flow.{flow_of, owner_of}
use Rattle.cpc_forms.specs.Split.{Position, InTree, InGraph}
use Rattle.cpc_graph_laws.specs.Going.{IsHeld, OutOfGraphs, OwnedNode, PositionsAreHeld}
use Rattle.cpc_graph_laws.proofs.Formed.{formed_graph}
use Rattle.cpc_graph_laws.proofs.Graphs.{has_graph}
use Rattle.cpc_graph_laws.proofs.Splits.{Held, InText, OfOwner, position_first, position_goes, position_arrival}

module _ (p : Program) (x : Text) where
  -- the function of a graph
  record HasFunction (g : Graph) : Type 0 where
    function : Function
    named : function_named p x ≡ Some function
    cps : is_cps_mode function.mode ≡ true
    graph : graph_of p function ≡ g

  function_if : (f : Function) (g : Graph) → function_named p x ≡ Some f → (b : Bool) → is_cps_mode f.mode ≡ b → graph_if b p f ≡ Some g → HasFunction g
  function_if f g e true i j = record { function = f; named = e; cps = i; graph = cc }
  function_if f g e false i j = absurd (cc)

  function_of : (o : Option Function) (g : Graph) → function_named p x ≡ o → graph_where p o ≡ Some g → HasFunction g
  function_of None g e i = absurd (cc)
  function_of (Some f) g e i = function_if f g e (is_cps_mode f.mode) refl i

  held_by : (g : Option Graph) (at : Station) (to : Position) → g ≡ graphs p x → Held g at to → IsHeld p x to
  held_by _ _ _ e (InText point) = OutOfGraphs point (sym e)
  held_by _ _ _ e (OfOwner g l n node formed h own) =
      let f = function_of (function_named p x) g refl (sym e) in
      OwnedNode f.function l n node f.named f.cps (ap (λ k. slice_get k.nodes n) f.graph ∙ h) (ap (λ k. owner_of (flow_of k) n) f.graph ∙ own)

  -- with the station that it comes from
  record WithStation (to : Position) : Type 0 where
    at : Station
    held : Held (graphs p x) at to

  station : (to : Position) → IsHeld p x to → WithStation to
  station _ (OutOfGraphs point e) = record { at = AtPoint point; held = subst (λ g. Held g (AtPoint point) (InTree point)) (sym e) (InText point) }
  station _ (OwnedNode f l n node e cps h own) = record {
    at = AtNode n;
    held = subst (λ g. Held g (AtNode n) (InGraph l n)) (sym (ap (graph_where p) e ∙ has_graph p f cps)) (OfOwner (graph_of p f) l n node (formed_graph p f) h own);
  }

  target : (a : Option Station) (b : Option Position) (to : Position) → BothSome (Held (graphs p x)) a b → b ≡ Some to → IsHeld p x to
  target _ _ to (SomeBoth at other r) e = let i : other ≡ to = cc in subst (IsHeld p x) i (held_by (graphs p x) at other refl r)
  target _ _ to NoneBoth e = absurd (cc)

pub positions_are_held : PositionsAreHeld
positions_are_held p x = (
  held_by p x (graphs p x) _ _ refl (position_first p x),
  (λ at to h held e. let s = station p x at held in target p x _ _ to (position_goes p x s.at at h s.held) e),
  (λ at to held e. let s = station p x at held in target p x _ _ to (position_arrival p x s.at at s.held) e),
)
