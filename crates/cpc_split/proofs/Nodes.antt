-- The flow of a graph is that of its nodes' steps.
use Rattle.std.proofs.Common.{◌≡◌, ℕ, false, [], ◌++◌, map, slice_get, Option, Some, None, option_map, refl, sym, ◌∙◌, ap, subst}
use Rattle.std.proofs.lemmas.List.{length-map}
use Rattle.std.proofs.lemmas.Option.{slice_get-map}
use Rattle.cpc_meaning.specs.Ways.{Manner, InPlace, ByFrame, AsCps}
use Rattle.cpc_forms.specs.Graph.{Node, Graph, graph_of, at_node}
use Rattle.cpc_forms.specs.Split.{owners_from, leaders_from}
use Rattle.cpc_graph_laws.proofs.Formed.{formed_graph, flow_inside}
use Rattle.cpc_forms.specs.Flow.{Inside, Place, Start, At, as_list, by_arrival, exits, resumes_at, leads_from, flow_of}
use Rattle.cpc_split.specs.Steps.{leads_of, resumes_of, leads_by, call_of, step_of, StepsAreNodes, StepsSplit}

call_leads : (m : Manner) (o : Option ℕ) → as_list (call_of m o) ≡ by_arrival m o
call_leads InPlace o = refl
call_leads ByFrame o = refl
call_leads AsCps o = refl

step_exits : (o : Option Node) → leads_of (option_map step_of o) ≡ at_node [] exits o
step_exits None = refl
step_exits (Some node) = ap (λ ns. as_list node.yes ++ (as_list node.no ++ ns)) (call_leads node.manner node.arrival)

step_resumes : (o : Option Node) → resumes_of (option_map step_of o) ≡ at_node false (λ node. resumes_at node.stood node.manner) o
step_resumes None = refl
step_resumes (Some node) = refl

leads_same : (g : Graph) (a : Place) → leads_by g.entry (map step_of g.nodes) a ≡ leads_from g a
leads_same g Start = refl
leads_same g (At n) = ap leads_of (slice_get-map step_of g.nodes n) ∙ step_exits (slice_get g.nodes n)

resumes_same : (g : Graph) (n : ℕ) → resumes_of (slice_get (map step_of g.nodes) n) ≡ (flow_of g).resumes n
resumes_same g n = ap resumes_of (slice_get-map step_of g.nodes n) ∙ step_resumes (slice_get g.nodes n)

pub steps_are_nodes : StepsAreNodes
steps_are_nodes g = λ i. record { size = length-map g.nodes step_of i; leads = λ a. leads_same g a i; resumes = λ n. resumes_same g n i }

pub steps_split : StepsSplit
steps_split p f =
    let same = steps_are_nodes (graph_of p f) in (
      subst Inside (sym same) (flow_inside (graph_of p f) (formed_graph p f)),
      ap (λ flow. owners_from flow 0 flow.size) same,
      ap (λ flow. leaders_from flow 0 flow.size) same,
    )
