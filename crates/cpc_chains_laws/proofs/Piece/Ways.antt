-- Where ways lead in a piece: to a node of the piece, or to another leader, each of which has its row; and what is kept along them.
use Rattle.std.proofs.Common.{◌≡◌, ℕ, Bool, true, false, not, ◌&&◌, ◌||◌, ◌==◌, cond, List, [], ◌∷◌, slice_get, is_some, nat_le, nat_lt, Some, option_map, refl, sym, ◌∙◌, ap, subst, arith}
use Rattle.std.proofs.lemmas.Bool.Decides.{nat_tests}
use Rattle.cpc_base.proofs.Truth.{eq_means, or_by_second}
use Rattle.cpc_tree.specs.Lists.{holds_number}
use Rattle.cpc_tree.specs.Points.{Point, Here, Arrival, End}
use Rattle.cpc_tree.specs.Syntax.{Function, Program}
use Rattle.cpc_meaning.specs.Ways.{way_from, ways}
use Rattle.cpc_forms.specs.Flow.{Place, At, Flow, is_leader, owner_of, owner_by}
use Rattle.cpc_forms.specs.Graph.{Node, node_of, graph_of, graph_if, graph_where, way, at_node}
use Rattle.cpc_forms.specs.Order.{number_of}
use Rattle.cpc_forms.specs.Pieces.{same_place, is_owned_by, piece_nodes}
use Rattle.cpc_forms.specs.Split.{InGraph, split_of, splits, position_goes, split_form}
use Rattle.cpc_graph_laws.specs.Laws.{flow_in}
use Rattle.cpc_graph_laws.proofs.Formed.{in_left, in_right, that_is, exits_way, mapped, node_comes, way_numbers}
use Rattle.cpc_graph_laws.proofs.Graphs.{node_found}
use Rattle.cpc_graph_laws.proofs.Leaders.{inside}
use Rattle.cpc_graph_laws.proofs.Marked.{leaders_are_listed}
use Rattle.cpc_graph_laws.proofs.MoreFacts.{ways_stay_or_lead}
use Rattle.cpc_graph_laws.proofs.Going.{positions_go_on}
use Rattle.cpc_graph_laws.proofs.Owning.{pieces_hold_theirs, place_self, place_same}
use Rattle.cpc_graph_laws.proofs.Splits.{owner_there}
use Rattle.cpc_graph_laws.proofs.Standing.{IsIn, IsNoArrival, way_is_in, way_no_arrival}
use Rattle.cpc_lift_laws.specs.Lift.{closure_in}
use Rattle.cpc_convert_routines.specs.ClosureLaws.{may_stand, lifting}
use Rattle.cpc_convert_routines.specs.Routines.{Routine, routine_of, keeper, closure_of, owner_number, chosen}
use Rattle.cpc_chains_event.specs.Rows.{owner_at, onwards, onwards_all, reached, stubs_of}
use Rattle.cpc_convert_routines.specs.Nodes.{is_own, stands_with, has_row, turned, rows_nodes}
use Rattle.cpc_convert_routines.proofs.Closures.{closures_lifted}
use Rattle.cpc_chains_event.proofs.Labels.{rows_stand_once}
use Rattle.cpc_convert_routines.proofs.Numbers.{chosen_has}
use Rattle.cpc_lifted_laws.specs.Accepted.Lifted.{kept_of}
use Rattle.cpc_lifted_laws.proofs.Accepted.Lifted.{programs_are_closed}
use Rattle.cpc_lifted_laws.specs.Piece.Known.{CpsKnown}
use Rattle.cpc_chains_laws.specs.Piece.Rows.{RowAt}
use Rattle.cpc_chains_laws.specs.Piece.Stood.{NodeAt}
use Rattle.cpc_chains_laws.proofs.Piece.Rows.{rows_stand}

lt_other : (m n : ℕ) → nat_le m n ≡ false → nat_lt n m ≡ true
lt_other m n h = grind (arith, nat_tests)

turned_has : (m : ℕ) (ns : List ℕ) (n : ℕ) → holds_number ns n ≡ true → holds_number (turned m ns) n ≡ true
turned_has m ns n h = go (nat_le m n) refl
  where
    go : (b : Bool) → nat_le m n ≡ b → holds_number (turned m ns) n ≡ true
    go true e = in_left n (chosen (λ k. nat_le m k) ns) (chosen (λ k. nat_lt k m) ns) (chosen_has (λ k. nat_le m k) ns n h e)
    go false e = in_right n (chosen (λ k. nat_le m k) ns) (chosen (λ k. nat_lt k m) ns) (chosen_has (λ k. nat_lt k m) ns n h (lt_other m n e))

-- a point that is no arrival has a row
plain_point : (p : Program) (f : Function) (point : Point) → IsNoArrival (Some point) → not (stands_with (node_of p f point).stood (node_of p f point).manner) ≡ true
plain_point p f (Here path) h = refl
plain_point p f (Arrival path) h = absurd h
plain_point p f End h = refl

module _ (p : Program) (f : Function) where
  abbrev r : Routine
  r = routine_of p f

  abbrev flow : Flow
  flow = flow_in p f

  -- the owner of a node
  pub owner_is : (l : Place) (n : ℕ) → NodeAt p f l n → owner_of flow n ≡ Some l
  owner_is l n at = let e : Some (owner_of flow n) ≡ Some (Some l) = sym (owner_there (graph_of p f) n at.node at.is_node) ∙ at.owned in cc

  -- where a way leads: a node that has a row in the piece of its owner, which is a leader or stays
  pub record Next (l : Place) (m : ℕ) : Type 0 where
    pub node : Node
    pub is_node : slice_get (graph_of p f).nodes m ≡ Some node
    pub owned : owner_of flow m ≡ Some (owner_by (is_leader flow m) l m)
    pub has : has_row r.split m ≡ true

  pub way_next : (l : Place) (n : ℕ) (at : NodeAt p f l n) (h : Bool) (m : ℕ) → way at.node h ≡ Some m → Next l m
  way_next l n at h m e =
      let from = node_comes p f n at.node at.is_node in
      let to = mapped (number_of f.body) (way_from p (Some f) from.0 h) m (sym (way_numbers p f from.0 h) ∙ (ap (λ (k : Node). way k h) from.2 ∙ e)) in
      let is_in = subst (IsIn f.body) to.1 (way_is_in p f from.0 h) in
      let found = subst (λ k. slice_get (graph_of p f).nodes k ≡ Some (node_of p f to.0)) to.2 (node_found p f to.0 is_in) in
      record {
        node = node_of p f to.0;
        is_node = found;
        owned = (ways_stay_or_lead p f n m at.node l at.is_node (owner_is l n at) (exits_way at.node h m e)).1;
        has = ap (λ o. at_node true (λ k. not (stands_with k.stood k.manner)) o) found ∙ plain_point p f to.0 (subst IsNoArrival to.1 (way_no_arrival p f from.0 h));
      }

  -- a node that an owner owns, and that has a row, is listed in its piece
  pub listed : (l : Place) (n : ℕ) → owner_of flow n ≡ Some l → has_row r.split n ≡ true → holds_number (rows_nodes r.split l) n ≡ true
  listed l n own has = turned_has _ (chosen (has_row r.split) (piece_nodes r.split l)) n (chosen_has (has_row r.split) (piece_nodes r.split l) n ((pieces_hold_theirs p f l n).1 own) has)

  -- where control goes on from a node
  pub onwards_way : (node : Node) (h : Bool) (m : ℕ) → way node h ≡ Some m → holds_number (onwards r node) m ≡ true
  onwards_way node true m e = in_left m _ _ (that_is m node.yes e)
  onwards_way node false m e = in_right m _ _ (in_left m _ _ (that_is m node.no e))

  all_onwards : (ns : List ℕ) (n m : ℕ) (node : Node) → slice_get (graph_of p f).nodes n ≡ Some node → holds_number ns n ≡ true → holds_number (onwards r node) m ≡ true → holds_number (onwards_all r ns) m ≡ true
  all_onwards [] n m node e h i = absurd (cc)
  all_onwards (k ∷ ns) n m node e h i = go (k == n) refl h (λ g. all_onwards ns n m node e g i)
    where
      go : (b : Bool) → (k == n) ≡ b → (b || holds_number ns n) ≡ true → (holds_number ns n ≡ true → holds_number (onwards_all r ns) m ≡ true) → holds_number (onwards_all r (k ∷ ns)) m ≡ true
      go true j g deeper = in_left m (at_node [] (onwards r) (slice_get (graph_of p f).nodes k)) (onwards_all r ns) (ap (λ o. holds_number (at_node [] (onwards r) o) m) (ap (slice_get (graph_of p f).nodes) (eq_means k n j) ∙ e) ∙ i)
      go false j g deeper = in_right m (at_node [] (onwards r) (slice_get (graph_of p f).nodes k)) (onwards_all r ns) (deeper g)

  own_by : (l m' : Place) (m : ℕ) → owner_of flow m ≡ Some m' → (node : Node) → slice_get (graph_of p f).nodes m ≡ Some node → is_own r.split l m ≡ same_place m' l
  own_by l m' m e node there = ap (λ o. is_owned_by l (owner_at o)) (owner_there (graph_of p f) m node there) ∙ ap (is_owned_by l) e

  -- what is not the piece's own is another leader
  pub other_leads : (l : Place) (m : ℕ) → Next l m → is_own r.split l m ≡ false → (is_leader flow m ≡ true) × (owner_of flow m ≡ Some (At m))
  other_leads l m next other = go (is_leader flow m) refl next.owned
    where
      go : (b : Bool) → is_leader flow m ≡ b → owner_of flow m ≡ Some (owner_by b l m) → (is_leader flow m ≡ true) × (owner_of flow m ≡ Some (At m))
      go true i e = (i, e)
      go false i e = absurd (let z : true ≡ false = sym (place_self l) ∙ (sym (own_by l l m e next.node next.is_node) ∙ other) in cc)

  pub own_stays : (l : Place) (m : ℕ) → Next l m → is_own r.split l m ≡ true → owner_of flow m ≡ Some l
  own_stays l m next own = next.owned ∙ ap Some (place_same (owner_by (is_leader flow m) l m) l (sym (own_by l (owner_by (is_leader flow m) l m) m next.owned next.node next.is_node) ∙ own))

  -- a leader to which a piece goes is among those
  pub stub_there : (l : Place) (n : ℕ) (at : NodeAt p f l n) → has_row r.split n ≡ true → (m : ℕ) → holds_number (onwards r at.node) m ≡ true → Next l m → is_own r.split l m ≡ false → holds_number (stubs_of r l) m ≡ true
  stub_there l n at has m goes next other =
      chosen_has (λ k. holds_number (reached r l) k && not (is_own r.split l k)) r.split.leaders m (leaders_are_listed flow (inside p f) m ∙ (other_leads l m next other).0)
      (ap (λ b. b && not (is_own r.split l m)) (or_by_second _ (holds_number (onwards_all r (rows_nodes r.split l)) m) (all_onwards (rows_nodes r.split l) n m at.node at.is_node (listed l n (owner_is l n at) has) goes)) ∙ ap not other)

  -- and has its row
  pub row_for : (l : Place) (n : ℕ) (at : NodeAt p f l n) → has_row r.split n ≡ true → (m : ℕ) → holds_number (onwards r at.node) m ≡ true → Next l m → RowAt p r l m
  row_for l n at has m goes next = go (is_own r.split l m) refl
    where
      go : (b : Bool) → is_own r.split l m ≡ b → RowAt p r l m
      go true e = (rows_stand p f l).row m ((rows_stand_once p f l).nodes m (listed l m (own_stays l m next e) next.has))
      go false e = (rows_stand p f l).row m ((rows_stand_once p f l).leaders m (stub_there l n at has m goes next e))

-- ---- what is kept

module _ (p : Program) (f : Function) (known : CpsKnown p f) where
  pub is_split : splits p f.called ≡ Some (split_of (graph_of p f))
  is_split = ap (option_map split_of) (ap (graph_where p) known.found.named ∙ ap (λ b. graph_if b p f) known.found.cps.mode)

  -- a position keeps what its owner keeps
  pub kept_is : (l : Place) → keeper (routine_of p f).split l ≡ l → (n k : ℕ) → kept_of p f.called (InGraph l n) k ≡ holds_number (closure_of (routine_of p f) l) k
  kept_is l own n k =
      ap (λ o. cond (not (is_some o)) true (holds_number (closure_in (split_form p) (lifting p) f.called (owner_number l)) k)) is_split
      ∙ (ap (λ m. holds_number (closure_in (split_form p) (lifting p) f.called (owner_number m)) k) (sym own) ∙ ap (λ ks. holds_number ks k) (sym (closures_lifted p known.names f known.found.cps l)))

  pub stands_there : (l : Place) (n : ℕ) → NodeAt p f l n → (lifting p).there f.called (InGraph l n) ≡ true
  stands_there l n at = ap (λ o. may_stand o (InGraph l n)) is_split ∙ (ap (λ o. is_owned_by l (owner_at o)) at.owned ∙ place_self l)

  -- where a way leads
  pub goes_is : (l : Place) (n : ℕ) (at : NodeAt p f l n) (h : Bool) → (split_form p).code.goes f.called (InGraph l n) h ≡ option_map (λ m. InGraph (owner_by (is_leader (flow_in p f) m) l m) m) (way at.node h)
  goes_is l n at h =
      ap (λ o. position_goes (λ point. (ways p).code.goes f.called point h) o (InGraph l n) h) is_split
      ∙ positions_go_on p f (λ point. (ways p).code.goes f.called point h) l n at.node h at.is_node (owner_is p f l n at)

  -- what another leader keeps is kept on the way to it
  pub keeps_along : (l : Place) (n : ℕ) (at : NodeAt p f l n) (h : Bool) (m : ℕ) → way at.node h ≡ Some m → owner_by (is_leader (flow_in p f) m) l m ≡ At m → (k : ℕ) → holds_number (closure_of (routine_of p f) (At m)) k ≡ true → holds_number (closure_of (routine_of p f) l) k ≡ true
  keeps_along l n at h m e to k held =
      sym (kept_is l at.keeps n k)
      ∙ ((programs_are_closed p).inside f.called).along (InGraph l n) (InGraph (At m) m) h k (stands_there l n at)
      (goes_is l n at h ∙ (ap (option_map (λ i. InGraph (owner_by (is_leader (flow_in p f) i) l i) i)) e ∙ ap (λ a. Some (InGraph a m)) to)) (kept_is (At m) refl m k ∙ held)
