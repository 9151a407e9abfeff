-- Points of the text and positions in the split graphs meet just where the owner in the position owns the point.
use Rattle.std.proofs.Common.{◌≡◌, ℕ, true, [], Option, Some, None, refl, sym, ◌∙◌, ap, subst}
use Rattle.cpc_base.specs.Bytes.{Text}
use Rattle.cpc_base.proofs.Lists.{found_within}
use Rattle.cpc_tree.specs.Syntax.{Function, Program}
use Rattle.cpc_tree.specs.Typing.{function_named}
use Rattle.cpc_tree.specs.Points.{Point}
use Rattle.cpc_meaning_matching.proofs.Systems.{follows_compose}
use Rattle.cpc_meaning.specs.Start.{main_name}
use Rattle.cpc_meaning.specs.Threads.{Pending, threads_of, is_cps_mode}
use Rattle.cpc_meaning.specs.Trees.{trees}
use Rattle.cpc_meaning.specs.Ways.{way_code}
use Rattle.cpc_meaning.proofs.Connect.{machine_ends}
use Rattle.cpc_meaning.proofs.Meeting.{BothSome, SomeBoth, NoneBoth, CodesMeet}
use Rattle.cpc_meaning.proofs.Positions.{positions_follow as codes_follow}
use Rattle.cpc_meaning.proofs.Ways.{ways_suffice}
use Rattle.cpc_forms.specs.Order.{is_in, number_of}
use Rattle.cpc_forms.specs.Graph.{Graph, graph_of, graph_where, Station, AtPoint, AtNode}
use Rattle.cpc_forms.specs.Flow.{Place, Start, At, flow_of, is_owner, owner_of}
use Rattle.cpc_forms.specs.Split.{Position, InTree, InGraph, splits, split_code}
use Rattle.cpc_forms.specs.Control as C
use Rattle.cpc_forms.proofs.Numbers.{one_node}
use Rattle.cpc_graph_laws.specs.Laws.{place_of, is_node, flow_in, PositionsFollow}
use Rattle.cpc_graph_laws.proofs.Owners.{owner_owns}
use Rattle.cpc_graph_laws.proofs.Formed.{formed_graph, node_comes}
use Rattle.cpc_graph_laws.proofs.Graphs.{Stands, NoGraph, HasNode, node_found, has_graph, graph_first, graph_stood, graph_scope, graph_goes, graph_arrival}
use Rattle.cpc_graph_laws.proofs.Splits.{Held, InText, OfOwner, position_first, position_stood, position_scope, position_goes, position_arrival}
use Rattle.cpc_graph_laws.proofs.Leaders.{leader_place}
use Rattle.cpc_graph_laws.proofs.Owned.{owner_is, is_owned}
use Rattle.cpc_graph_laws.proofs.MoreFacts.{owner_owning}

-- a point, and where it is in the code of split graphs: itself where there is no graph, or else its node, with the owner of the point
pub data InPiece (p : Program) : Option Function → Point → Position → Type 0 where
  NotInPiece : (o : Option Function) (point : Point) → graph_where p o ≡ None → InPiece p o point (InTree point)
  OwnedBy : (f : Function) (l : C.Node) (point : Point) → is_cps_mode f.mode ≡ true → is_node f.body l ≡ true → is_in f.body point ≡ true → C.Owns p f l point
      → InPiece p (Some f) point (InGraph (place_of f.body l) (number_of f.body point))

module _ (p : Program) (f : Function) where
  -- an owner is the place of a node of control
  pub record IsPlace (l : Place) : Type 0 where
    pub node : C.Node
    pub there : is_node f.body node ≡ true
    pub place : place_of f.body node ≡ l

  place_owner : (l : Place) → is_owner (flow_in p f) l ≡ true → IsPlace l
  place_owner Start e = record { node = C.Entry; there = refl; place = refl }
  place_owner (At m) e =
      let x = found_within (graph_of p f).nodes m (leader_place p f m e) in
      let y = node_comes p f m x.0 x.1 in
      let z = one_node f.body m y.0 y.1 in
      record { node = C.At y.0; there = z.0; place = ap (λ k. At k) z.1 }

  pub owner_place : (n : ℕ) (l : Place) → owner_of (flow_in p f) n ≡ Some l → IsPlace l
  owner_place n l e = let h = owner_owns (flow_in p f) l n e in place_owner l (owner_owning p f l (At n) h.0 h.1)

module _ (p : Program) where
  join_text : (o : Option Function) (point : Point) (g : Option Graph) (at : Station) (to : Position) → graph_where p o ≡ None → g ≡ graph_where p o → AtPoint point ≡ at → Held g at to → InPiece p o point to
  join_text o point _ _ _ e i j (InText other) = let same : point ≡ other = cc in subst (λ x. InPiece p o point (InTree x)) same (NotInPiece o point e)
  join_text o point _ _ _ e i j (OfOwner g l n node formed h own) = absurd (cc)

  join_owner : (f : Function) (point : Point) (l : Place) → is_cps_mode f.mode ≡ true → is_in f.body point ≡ true → owner_of (flow_in p f) (number_of f.body point) ≡ Some l → InPiece p (Some f) point (InGraph l (number_of f.body point))
  join_owner f point l cps i own =
      let x = owner_place p f (number_of f.body point) l own in
      subst (λ k. InPiece p (Some f) point (InGraph k (number_of f.body point))) x.place
      (OwnedBy f x.node point cps x.there i (owner_is p f x.node point x.there i (own ∙ ap (λ k. Some k) (sym x.place))))

  join_node : (f : Function) (point : Point) (g : Option Graph) (at : Station) (to : Position) → is_cps_mode f.mode ≡ true → is_in f.body point ≡ true → g ≡ graph_where p (Some f) → AtNode (number_of f.body point) ≡ at → Held g at to
      → InPiece p (Some f) point to
  join_node f point _ _ _ cps i e j (InText other) = absurd (cc)
  join_node f point _ _ _ cps i e j (OfOwner g l n node formed h own) =
      let same : Some g ≡ Some (graph_of p f) = e ∙ has_graph p f cps in
      let graph : g ≡ graph_of p f = cc in
      let number : number_of f.body point ≡ n = cc in
      subst (λ k. InPiece p (Some f) point (InGraph l k)) number
      (join_owner f point l cps i (subst (λ k. owner_of (flow_of k) (number_of f.body point) ≡ Some l) graph (ap (owner_of (flow_of g)) number ∙ own)))

  join : (o : Option Function) (point : Point) (at other : Station) (to : Position) → Stands p o point at → at ≡ other → Held (graph_where p o) other to → InPiece p o point to
  join _ _ _ other to (NoGraph o point e) i h = join_text o point (graph_where p o) other to e refl i h
  join _ _ _ other to (HasNode f point cps e) i h = join_node f point (graph_where p (Some f)) other to cps e refl i h

  -- the station between
  pub record Between (o : Option Function) (point : Point) (to : Position) : Type 0 where
    pub at : Station
    pub stands : Stands p o point at
    pub held : Held (graph_where p o) at to

  pub between : (o : Option Function) (point : Point) (to : Position) → InPiece p o point to → Between o point to
  between _ _ _ (NotInPiece o point e) = record { at = AtPoint point; stands = NoGraph o point e; held = subst (λ g. Held g (AtPoint point) (InTree point)) (sym e) (InText point) }
  between _ _ _ (OwnedBy f l point cps il i own) = record {
    at = AtNode (number_of f.body point);
    stands = HasNode f point cps i;
    held = subst (λ g. Held g (AtNode (number_of f.body point)) (InGraph (place_of f.body l) (number_of f.body point))) (sym (has_graph p f cps))
        (OfOwner (graph_of p f) (place_of f.body l) (number_of f.body point) _ (formed_graph p f) (node_found p f point i) (is_owned p f l point own));
  }

  join_both : (o : Option Function) (x : Option Point) (y z : Option Station) (w : Option Position) → BothSome (Stands p o) x y → y ≡ z → BothSome (Held (graph_where p o)) z w → BothSome (InPiece p o) x w
  join_both o _ _ _ _ (SomeBoth point at r) e (SomeBoth other to s) = let i : at ≡ other = cc in SomeBoth point to (join o point at other to r i s)
  join_both o _ _ _ _ (SomeBoth point at r) e NoneBoth = absurd (cc)
  join_both o _ _ _ _ NoneBoth e (SomeBoth other to s) = absurd (cc)
  join_both o _ _ _ _ NoneBoth e NoneBoth = NoneBoth

  -- a point and its position, in the function of a name
  abbrev pub AtOwner : Text → Point → Position → Type 0
  AtOwner x point to = InPiece p (function_named p x) point to

  mid : (x : Text) (point : Point) (to : Position) → AtOwner x point to → Between (function_named p x) point to
  mid x point to r = between (function_named p x) point to r

  pub owners_meet : CodesMeet AtOwner p (way_code p) (split_code (way_code p) (splits p))
  owners_meet = record {
    first = λ x. join (function_named p x) _ _ _ _ (graph_first p x) refl (position_first p x);
    stood = λ x point to r. graph_stood p x point (mid x point to r).at (mid x point to r).stands ∙ position_stood p x (mid x point to r).at to (mid x point to r).held;
    scope = λ x point to r. graph_scope p x point (mid x point to r).at (mid x point to r).stands ∙ position_scope p x (mid x point to r).at to (mid x point to r).held;
    goes = λ x point to h r ev. join_both (function_named p x) _ _ _ _ (graph_goes p x point (mid x point to r).at h (mid x point to r).stands) refl (position_goes p x (mid x point to r).at to h (mid x point to r).held);
    arrival = λ x point to r ev. join_both (function_named p x) _ _ _ _ (graph_arrival p x point (mid x point to r).at (mid x point to r).stands) refl (position_arrival p x (mid x point to r).at to (mid x point to r).held);
  }

pub positions_follow : PositionsFollow
positions_follow p =
    let by : _ = codes_follow (AtOwner p) p (way_code p) (split_code (way_code p) (splits p)) (owners_meet p) in
    (by, follows_compose (λ h. machine_ends (threads_of (trees p)) (Pending main_name []) h) (ways_suffice p) by)
