-- The graphs of a program's cps functions make the same steps as its text.
use Rattle.std.proofs.Common.{◌≡◌, Bool, true, false, [], slice_get, Option, Some, None, option_map, refl, sym, ◌∙◌, ap, subst}
use Rattle.std.proofs.lemmas.Option.{slice_get-map}
use Rattle.cpc_base.specs.Bytes.{Text}
use Rattle.cpc_tree.specs.Syntax.{Function, Program}
use Rattle.cpc_tree.specs.Typing.{function_named}
use Rattle.cpc_tree.specs.Points.{Point, Nothing, begin}
use Rattle.cpc_meaning.specs.Act.{AtStatement}
use Rattle.cpc_meaning.specs.Threads.{is_cps_mode}
use Rattle.cpc_meaning.specs.Trees.{first_point, stood_at, scope_from}
use Rattle.cpc_meaning.specs.Ways.{way_from, arrival_from, way_code}
use Rattle.cpc_meaning.proofs.Meeting.{BothSome, SomeBoth, NoneBoth, CodesMeet}
use Rattle.cpc_meaning.proofs.Positions.{positions_follow as codes_follow}
use Rattle.cpc_forms.specs.Order.{is_in, points, number_of}
use Rattle.cpc_forms.specs.Graph.{Node, node_of, graph_of, graph_if, graph_where, graphs, way, node_at, at_node, Station, AtPoint, AtNode, first_station, station_stood, station_scope, station_goes, station_arrival, graph_code}
use Rattle.cpc_forms.proofs.Numbered.{numbered_point}
use Rattle.cpc_graph_laws.specs.Laws.{GraphsFollow}
use Rattle.cpc_graph_laws.proofs.Standing.{IsIn, begin_is_in, way_is_in, arrival_is_in}

-- a point, and where it is in the code of graphs: itself where there is no graph, or else the node with its number
pub data Stands (p : Program) : Option Function → Point → Station → Type 0 where
  NoGraph : (o : Option Function) (point : Point) → graph_where p o ≡ None → Stands p o point (AtPoint point)
  HasNode : (f : Function) (point : Point) → is_cps_mode f.mode ≡ true → is_in f.body point ≡ true → Stands p (Some f) point (AtNode (number_of f.body point))

module _ (p : Program) where
  -- the node of a point
  pub node_found : (f : Function) (point : Point) → is_in f.body point ≡ true → slice_get (graph_of p f).nodes (number_of f.body point) ≡ Some (node_of p f point)
  node_found f point e = slice_get-map (node_of p f) (points f.body) (number_of f.body point) ∙ ap (option_map (node_of p f)) (numbered_point f.body point e)

  pub has_graph : (f : Function) → is_cps_mode f.mode ≡ true → graph_where p (Some f) ≡ Some (graph_of p f)
  has_graph f e = ap (λ b. graph_if b p f) e

  first_some : (f : Function) (b : Bool) → is_cps_mode f.mode ≡ b → Stands p (Some f) (begin f.body) (first_station (graph_if b p f) (begin f.body))
  first_some f true e = HasNode f (begin f.body) e (begin_is_in f.body)
  first_some f false e = NoGraph (Some f) (begin f.body) (ap (λ b. graph_if b p f) e)

  stands_first : (o : Option Function) → Stands p o (first_point o) (first_station (graph_where p o) (first_point o))
  stands_first None = NoGraph None (first_point None) refl
  stands_first (Some f) = first_some f (is_cps_mode f.mode) refl

  both_points : (o : Option Function) → graph_where p o ≡ None → (to : Option Point) → BothSome (Stands p o) to (option_map (λ point. AtPoint point) to)
  both_points o e None = NoneBoth
  both_points o e (Some to) = SomeBoth to (AtPoint to) (NoGraph o to e)

  both_nodes : (f : Function) → is_cps_mode f.mode ≡ true → (to : Option Point) → IsIn f.body to → BothSome (Stands p (Some f)) to (option_map (λ n. AtNode n) (option_map (number_of f.body) to))
  both_nodes f e None i = NoneBoth
  both_nodes f e (Some to) i = SomeBoth to (AtNode (number_of f.body to)) (HasNode f to e i)

  way_of : (f : Function) (point : Point) (h : Bool) → way (node_of p f point) h ≡ option_map (number_of f.body) (way_from p (Some f) point h)
  way_of f point true = refl
  way_of f point false = refl

  -- what is at the node of a point
  module _ (f : Function) (point : Point) (cps : is_cps_mode f.mode ≡ true) (e : is_in f.body point ≡ true) where
    there : node_at (graph_where p (Some f)) (number_of f.body point) ≡ Some (node_of p f point)
    there = ap (λ g. node_at g (number_of f.body point)) (has_graph f cps) ∙ node_found f point e

    part_there : {A : Type 0} (other : A) (part : Node → A) → part (node_of p f point) ≡ at_node other part (node_at (graph_where p (Some f)) (number_of f.body point))
    part_there other part = ap (at_node other part) (sym there)

  stands_stood : (o : Option Function) (point : Point) (at : Station) → Stands p o point at → stood_at o point ≡ station_stood (stood_at o) (graph_where p o) at
  stands_stood _ _ _ (NoGraph o point e) = refl
  stands_stood _ _ _ (HasNode f point cps e) = part_there f point cps e (AtStatement Nothing) (λ node. node.stood)

  stands_scope : (o : Option Function) (point : Point) (at : Station) → Stands p o point at → scope_from o point ≡ station_scope (scope_from o) (graph_where p o) at
  stands_scope _ _ _ (NoGraph o point e) = refl
  stands_scope _ _ _ (HasNode f point cps e) = part_there f point cps e [] (λ node. node.scope)

  stands_goes : (o : Option Function) (point : Point) (at : Station) (h : Bool) → Stands p o point at → BothSome (Stands p o) (way_from p o point h) (station_goes (λ to. way_from p o to h) (graph_where p o) at h)
  stands_goes _ _ _ h (NoGraph o point e) = both_points o e (way_from p o point h)
  stands_goes _ _ _ h (HasNode f point cps e) =
      subst (λ to. BothSome (Stands p (Some f)) (way_from p (Some f) point h) (option_map (λ n. AtNode n) to))
      (sym (way_of f point h) ∙ part_there f point cps e None (λ node. way node h))
      (both_nodes f cps (way_from p (Some f) point h) (way_is_in p f point h))

  stands_arrival : (o : Option Function) (point : Point) (at : Station) → Stands p o point at → BothSome (Stands p o) (arrival_from p o point) (station_arrival (arrival_from p o) (graph_where p o) at)
  stands_arrival _ _ _ (NoGraph o point e) = both_points o e (arrival_from p o point)
  stands_arrival _ _ _ (HasNode f point cps e) =
      subst (λ to. BothSome (Stands p (Some f)) (arrival_from p (Some f) point) (option_map (λ n. AtNode n) to))
      (part_there f point cps e None (λ node. node.arrival))
      (both_nodes f cps (arrival_from p (Some f) point) (arrival_is_in p f point))

  -- a point and its station, in the function of a name
  abbrev pub AtStation : Text → Point → Station → Type 0
  AtStation x point at = Stands p (function_named p x) point at

  pub graph_first : (x : Text) → AtStation x ((way_code p).first x) ((graph_code (way_code p) (graphs p)).first x)
  graph_first x = stands_first (function_named p x)

  pub graph_stood : (x : Text) (point : Point) (at : Station) → AtStation x point at → (way_code p).stood x point ≡ (graph_code (way_code p) (graphs p)).stood x at
  graph_stood x point at r = stands_stood (function_named p x) point at r

  pub graph_scope : (x : Text) (point : Point) (at : Station) → AtStation x point at → (way_code p).scope x point ≡ (graph_code (way_code p) (graphs p)).scope x at
  graph_scope x point at r = stands_scope (function_named p x) point at r

  pub graph_goes : (x : Text) (point : Point) (at : Station) (h : Bool) → AtStation x point at → BothSome (AtStation x) ((way_code p).goes x point h) ((graph_code (way_code p) (graphs p)).goes x at h)
  graph_goes x point at h r = stands_goes (function_named p x) point at h r

  pub graph_arrival : (x : Text) (point : Point) (at : Station) → AtStation x point at → BothSome (AtStation x) ((way_code p).arrival x point) ((graph_code (way_code p) (graphs p)).arrival x at)
  graph_arrival x point at r = stands_arrival (function_named p x) point at r

  pub graph_meets : CodesMeet AtStation p (way_code p) (graph_code (way_code p) (graphs p))
  graph_meets = record {
    first = graph_first;
    stood = graph_stood;
    scope = graph_scope;
    goes = λ x point at h r ev. graph_goes x point at h r;
    arrival = λ x point at r ev. graph_arrival x point at r;
  }

pub graphs_follow : GraphsFollow
graphs_follow p = codes_follow (AtStation p) p (way_code p) (graph_code (way_code p) (graphs p)) (graph_meets p)
