-- A graph and the split graph make the same steps: the owner in a position is that of its node.
use Rattle.std.proofs.Common.{◌≡◌, ℕ, zero, suc, ◌+◌, ◌<◌, Bool, true, false, ◌||◌, length, slice_get, Option, Some, None, option_map, refl, sym, ◌∙◌, ap, subst, arith}
use Rattle.std.proofs.lemmas.Option.{slice_get_within}
use Rattle.cpc_base.specs.Bytes.{Text}
use Rattle.cpc_base.proofs.Lists.{found_within}
use Rattle.cpc_tree.specs.Syntax.{Function, Program}
use Rattle.cpc_tree.specs.Typing.{Scope, function_named}
use Rattle.cpc_tree.specs.Points.{Point}
use Rattle.cpc_tree.specs.Lists.{holds_number}
use Rattle.cpc_meaning.specs.Act.{Stood}
use Rattle.cpc_meaning.specs.Plain.{Code}
use Rattle.cpc_meaning.specs.Threads.{is_cps_mode}
use Rattle.cpc_meaning.specs.Ways.{is_cps_statement, way_code}
use Rattle.cpc_meaning.proofs.Meeting.{BothSome, SomeBoth, NoneBoth, CodesMeet}
use Rattle.cpc_meaning.proofs.Positions.{positions_follow as codes_follow}
use Rattle.cpc_forms.specs.Graph.{Node, Graph, graph_if, graph_where, graphs, way, at_node, Station, AtPoint, AtNode, first_station, station_stood, station_scope, station_goes, station_arrival, graph_code}
use Rattle.cpc_forms.specs.Flow.{Place, Start, At, Flow, Inside, exits, flow_of, goes_to, two_or_more, sources, is_leader, Owns, Itself, Onwards, owner_of, owner_by}
use Rattle.cpc_forms.specs.Split.{Split, owners_from, split_of, splits, Position, InTree, InGraph, owner_or, come_to, split_node, first_position, split_code}
use Rattle.cpc_forms.specs.Split as F
use Rattle.cpc_graph_laws.specs.Laws.{SplitsFollow}
use Rattle.cpc_graph_laws.proofs.Owners.{owner_found, owner_owns}
use Rattle.cpc_graph_laws.proofs.Formed.{Formed, exits_way, exits_arrival, formed_graph, flow_inside, goes_from_node, goes_from_start}

-- ---- owners, from node to node

owners_at : (flow : Flow) (k size m : ℕ) → m < size → slice_get (owners_from flow k size) m ≡ Some (owner_of flow (k + m))
owners_at flow k zero m h = absurd (omega arith)
owners_at flow k (suc size) zero h = let i : k ≡ k + 0 = omega arith in ap (λ j. Some (owner_of flow j)) i
owners_at flow k (suc size) (suc m) h = let i : suc k + m ≡ k + suc m = omega arith in owners_at flow (suc k) size m (omega arith) ∙ ap (λ j. Some (owner_of flow j)) i

-- the owner of a node in the split graph
pub owner_there : (g : Graph) (m : ℕ) (node : Node) → slice_get g.nodes m ≡ Some node → slice_get (split_of g).owners m ≡ Some (owner_of (flow_of g) m)
owner_there g m node e = let i : 0 + m ≡ m = omega arith in owners_at (flow_of g) 0 (length g.nodes) m (slice_get_within g.nodes m node e) ∙ ap (λ j. Some (owner_of (flow_of g) j)) i

module _ (flow : Flow) (inside : Inside flow) where
  next_by : (l : Place) (d : ℕ) (a : Place) (m : ℕ) → Owns flow l d a → goes_to flow a m ≡ true → (b : Bool) → is_leader flow m ≡ b → owner_of flow m ≡ Some (owner_by b l m)
  next_by l d a m h e true f = owner_found flow inside (At m) 0 m (Itself f)
  next_by l d a m h e false f = owner_found flow inside l (suc d) m (Onwards d a m h e f)

  -- control goes to a leader, which owns itself, or stays with the owner
  pub owner_next : (l : Place) (d : ℕ) (a : Place) (m : ℕ) → Owns flow l d a → goes_to flow a m ≡ true → owner_of flow m ≡ Some (owner_by (is_leader flow m) l m)
  owner_next l d a m h e = next_by l d a m h e (is_leader flow m) refl

  pub resumes_leader : (m : ℕ) → flow.resumes m ≡ true → is_leader flow m ≡ true
  resumes_leader m e = ap (λ b. b || two_or_more (sources flow m)) e

  -- where control resumes is a leader
  pub owner_back : (m : ℕ) → flow.resumes m ≡ true → owner_of flow m ≡ Some (At m)
  owner_back m e = owner_found flow inside (At m) 0 m (Itself (resumes_leader m e))

-- ---- positions

-- where code of graphs stands, and the same with the owner of the node
pub data Held : Option Graph → Station → Position → Type 0 where
  InText : (point : Point) → Held None (AtPoint point) (InTree point)
  OfOwner : (g : Graph) (l : Place) (n : ℕ) (node : Node) → Formed g → slice_get g.nodes n ≡ Some node → owner_of (flow_of g) n ≡ Some l → Held (Some g) (AtNode n) (InGraph l n)

module _ (g : Graph) (formed : Formed g) where
  -- control comes to a node that has an owner
  come_held : (l k : Place) (m : ℕ) → m < length g.nodes → owner_of (flow_of g) m ≡ Some k → Held (Some g) (AtNode m) (come_to (Some (split_of g)) l m)
  come_held l k m less e =
      let x = found_within g.nodes m less in
      let y : slice_get (split_of g).owners m ≡ Some (Some k) = owner_there g m x.0 x.1 ∙ ap (λ o. Some o) e in
      subst (λ o. Held (Some g) (AtNode m) (InGraph (owner_or l o) m)) (sym y) (OfOwner g k m x.0 formed x.1 e)

  pub first_held : Held (Some g) (AtNode g.entry) (come_to (Some (split_of g)) Start g.entry)
  first_held = come_held Start _ g.entry formed.entry (owner_next (flow_of g) (flow_inside g formed) Start 0 Start g.entry (Itself refl) (goes_from_start g))

  module _ (l : Place) (n : ℕ) (node : Node) (is_node : slice_get g.nodes n ≡ Some node) (own : owner_of (flow_of g) n ≡ Some l) where
    -- what an owned node leads to is owned
    pub exit_owner : (m : ℕ) → holds_number (exits node) m ≡ true → owner_of (flow_of g) m ≡ Some (owner_by (is_leader (flow_of g) m) l m)
    exit_owner m e = let h = owner_owns (flow_of g) l n own in owner_next (flow_of g) (flow_inside g formed) l h.0 (At n) m h.1 (goes_from_node g n m node is_node e)

    exit_held : (m : ℕ) → holds_number (exits node) m ≡ true → Held (Some g) (AtNode m) (come_to (Some (split_of g)) l m)
    exit_held m e = come_held l _ m (formed.exit n m node is_node e) (exit_owner m e)

    exits_held : (o : Option ℕ) → ((m : ℕ) → o ≡ Some m → holds_number (exits node) m ≡ true) → BothSome (Held (Some g)) (option_map (λ m. AtNode m) o) (option_map (come_to (Some (split_of g)) l) o)
    exits_held None h = NoneBoth
    exits_held (Some m) h = SomeBoth (AtNode m) _ (exit_held m (h m refl))

    back_held : (o : Option ℕ) → node.arrival ≡ o → (cps : Bool) → is_cps_statement node.manner ≡ cps → BothSome (Held (Some g)) (option_map (λ m. AtNode m) o) (option_map (come_to (Some (split_of g)) l) o)
    back_held o e false c = exits_held o (λ m i. exits_arrival node m c (e ∙ i))
    back_held None e true c = NoneBoth
    back_held (Some m) e true c =
        let k = formed.back n m node is_node c e in
        SomeBoth (AtNode m) _ (come_held l (At m) m k.1 (owner_back (flow_of g) (flow_inside g formed) m k.0))

-- ---- the codes meet

abbrev pub AllFormed : Option Graph → Type 0
AllFormed None = Unit {0}
AllFormed (Some g) = Formed g

module _ (stood : Point → Stood) (scope : Point → Scope) (goes arrival : Point → Option Point) where
  held_first : (o : Option Graph) (point : Point) → AllFormed o → Held o (first_station o point) (first_position (option_map split_of o) point)
  held_first None point formed = InText point
  held_first (Some g) point formed = first_held g formed

  held_stood : (o : Option Graph) (at : Station) (to : Position) → Held o at to → station_stood stood o at ≡ F.position_stood stood (option_map split_of o) to
  held_stood _ _ _ (InText point) = refl
  held_stood _ _ _ (OfOwner g l n node formed e own) = refl

  held_scope : (o : Option Graph) (at : Station) (to : Position) → Held o at to → station_scope scope o at ≡ F.position_scope scope (option_map split_of o) to
  held_scope _ _ _ (InText point) = refl
  held_scope _ _ _ (OfOwner g l n node formed e own) = refl

  points_held : (o : Option Point) → BothSome (Held None) (option_map (λ point. AtPoint point) o) (option_map (λ point. InTree point) o)
  points_held None = NoneBoth
  points_held (Some point) = SomeBoth (AtPoint point) (InTree point) (InText point)

  held_goes : (o : Option Graph) (at : Station) (to : Position) (h : Bool) → Held o at to → BothSome (Held o) (station_goes goes o at h) (F.position_goes goes (option_map split_of o) to h)
  held_goes _ _ _ h (InText point) = points_held (goes point)
  held_goes _ _ _ h (OfOwner g l n node formed e own) =
      subst (λ x. BothSome (Held (Some g)) (option_map (λ m. AtNode m) (at_node None (λ k. way k h) x)) (option_map (come_to (Some (split_of g)) l) (at_node None (λ k. way k h) x))) (sym e)
      (exits_held g formed l n node e own (way node h) (exits_way node h))

  held_arrival : (o : Option Graph) (at : Station) (to : Position) → Held o at to → BothSome (Held o) (station_arrival arrival o at) (F.position_arrival arrival (option_map split_of o) to)
  held_arrival _ _ _ (InText point) = points_held (arrival point)
  held_arrival _ _ _ (OfOwner g l n node formed e own) =
      subst (λ x. BothSome (Held (Some g)) (option_map (λ m. AtNode m) (at_node None (λ k. k.arrival) x)) (option_map (come_to (Some (split_of g)) l) (at_node None (λ k. k.arrival) x))) (sym e)
      (back_held g formed l n node e own node.arrival refl (is_cps_statement node.manner) refl)

module _ (p : Program) where
  formed_if : (f : Function) (b : Bool) → AllFormed (graph_if b p f)
  formed_if f true = formed_graph p f
  formed_if f false = tt

  formed_where : (o : Option Function) → AllFormed (graph_where p o)
  formed_where None = tt
  formed_where (Some f) = formed_if f (is_cps_mode f.mode)

  pub graphs_formed : (x : Text) → AllFormed (graphs p x)
  graphs_formed x = formed_where (function_named p x)

  -- a station and its position, in the function of a name
  abbrev pub AtPosition : Text → Station → Position → Type 0
  AtPosition x at to = Held (graphs p x) at to

  abbrev code : Code Point
  code = way_code p

  abbrev split : Code Position
  split = split_code code (splits p)

  abbrev graph_steps : Code Station
  graph_steps = graph_code code (graphs p)

  pub position_first : (x : Text) → AtPosition x (graph_steps.first x) (split.first x)
  position_first x = held_first (code.stood x) (code.scope x) (code.arrival x) (code.arrival x) (graphs p x) (code.first x) (graphs_formed x)

  pub position_stood : (x : Text) (at : Station) (to : Position) → AtPosition x at to → graph_steps.stood x at ≡ split.stood x to
  position_stood x at to r = held_stood (code.stood x) (code.scope x) (code.arrival x) (code.arrival x) (graphs p x) at to r

  pub position_scope : (x : Text) (at : Station) (to : Position) → AtPosition x at to → graph_steps.scope x at ≡ split.scope x to
  position_scope x at to r = held_scope (code.stood x) (code.scope x) (code.arrival x) (code.arrival x) (graphs p x) at to r

  pub position_goes : (x : Text) (at : Station) (to : Position) (h : Bool) → AtPosition x at to → BothSome (AtPosition x) (graph_steps.goes x at h) (split.goes x to h)
  position_goes x at to h r = held_goes (code.stood x) (code.scope x) (λ point. code.goes x point h) (code.arrival x) (graphs p x) at to h r

  pub position_arrival : (x : Text) (at : Station) (to : Position) → AtPosition x at to → BothSome (AtPosition x) (graph_steps.arrival x at) (split.arrival x to)
  position_arrival x at to r = held_arrival (code.stood x) (code.scope x) (code.arrival x) (code.arrival x) (graphs p x) at to r

  pub split_meets : CodesMeet AtPosition p graph_steps split
  split_meets = record {
    first = position_first;
    stood = position_stood;
    scope = position_scope;
    goes = λ x at to h r ev. position_goes x at to h r;
    arrival = λ x at to r ev. position_arrival x at to r;
  }

pub splits_follow : SplitsFollow
splits_follow p = codes_follow (AtPosition p) p (graph_code (way_code p) (graphs p)) (split_code (way_code p) (splits p)) (split_meets p)
