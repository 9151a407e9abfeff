-- Where control goes in split graphs, by the owners of what it comes to.
use Rattle.std.proofs.Common.{◌≡◌, ℕ, ◌<◌, true, length, Option, Some, None, option_map, refl, sym, ◌∙◌, ap, subst}
use Rattle.cpc_base.proofs.Lists.{found_within}
use Rattle.cpc_tree.specs.Syntax.{Function, Program}
use Rattle.cpc_meaning.specs.Ways.{is_cps_statement}
use Rattle.cpc_forms.specs.Graph.{graph_of, way, at_node}
use Rattle.cpc_forms.specs.Flow.{Place, At, is_leader, owner_of, owner_by}
use Rattle.cpc_forms.specs.Split.{split_of, InGraph, owner_or, come_to}
use Rattle.cpc_graph_laws.specs.Laws.{flow_in}
use Rattle.cpc_graph_laws.specs.Going.{PositionsGoOn, CallsArrive, WaitsArrive}
use Rattle.cpc_graph_laws.proofs.Formed.{exits_way, exits_arrival}
use Rattle.cpc_graph_laws.proofs.Splits.{owner_there}
use Rattle.cpc_graph_laws.proofs.MoreFacts.{arrivals_stay, cps_statements_wait, ways_stay_or_lead, owners_lead}

-- control comes to what has this owner
come_by : (p : Program) (f : Function) (l k : Place) (m : ℕ) → m < length (graph_of p f).nodes → owner_of (flow_in p f) m ≡ Some k → come_to (Some (split_of (graph_of p f))) l m ≡ InGraph k m
come_by p f l k m less e =
    let x = found_within (graph_of p f).nodes m less in
    ap (λ o. InGraph (owner_or l o) m) (owner_there (graph_of p f) m x.0 x.1) ∙ ap (λ o. InGraph (owner_or l (Some o)) m) e

map_known : {A B : Type 0} (f g : A → B) (o : Option A) → ((x : A) → o ≡ Some x → f x ≡ g x) → option_map f o ≡ option_map g o
map_known f g None h = refl
map_known f g (Some x) h = ap (λ y. Some y) (h x refl)

pub positions_go_on : PositionsGoOn
positions_go_on p f goes l n node h e own =
    ap (λ o. option_map (come_to (Some (split_of (graph_of p f))) l) (at_node None (λ k. way k h) o)) e
    ∙ map_known (come_to (Some (split_of (graph_of p f))) l) (λ m. InGraph (owner_by (is_leader (flow_in p f) m) l m) m) (way node h)
    (λ m i. let s = ways_stay_or_lead p f n m node l e own (exits_way node h m i) in come_by p f l (owner_by (is_leader (flow_in p f) m) l m) m s.0 s.1)

pub calls_arrive : CallsArrive
calls_arrive p f arrival l n node e own frame =
    ap (λ o. option_map (come_to (Some (split_of (graph_of p f))) l) (at_node None (λ k. k.arrival) o)) e
    ∙ map_known (come_to (Some (split_of (graph_of p f))) l) (InGraph l) node.arrival
    (λ m i.
    let s = ways_stay_or_lead p f n m node l e own (exits_arrival node m (ap is_cps_statement frame) i) in
    let a = arrivals_stay p f n m node e frame i in
    come_by p f l l m s.0 (a.2 ∙ own))

pub waits_arrive : WaitsArrive
waits_arrive p f arrival l n node x e st cps =
    ap (λ o. option_map (come_to (Some (split_of (graph_of p f))) l) (at_node None (λ k. k.arrival) o)) e
    ∙ map_known (come_to (Some (split_of (graph_of p f))) l) (λ m. InGraph (At m) m) node.arrival
    (λ m i.
    let w = (cps_statements_wait p f n node x e st cps).3 in
    let j : w.0 ≡ m = let k : Some w.0 ≡ Some m = sym w.1 ∙ i in cc in
    let led : is_leader (flow_in p f) m ≡ true = subst (λ k. is_leader (flow_in p f) k ≡ true) j w.3 in
    let o = (owners_lead p f).1 m led in
    come_by p f l (At m) m o.0 o.1)
