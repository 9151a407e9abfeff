-- What is found of a graph is what the definitions make of it.
use Rattle.std.proofs.Common.{◌≡◌, ◌<◌, ◌≤◌, ◌+◌, ℕ, List, [], ◌∷◌, ◌++◌, map, take, length, get_or, Option, refl, sym, ap, ◌∙◌, subst}
use Rattle.std.proofs.lemmas.List.{take_all, take_more, map_push}
use Rattle.std.proofs.Math.Logic.{∥∥₁_elim, ∥∥₁_map}
use Rattle.std.proofs.Props.{props}
use Rattle.cpc_tree.specs.Erase.{Names, function_of}
use Rattle.cpc_forms.specs.Graph as G
use Rattle.cpc_forms.specs.Flow.{Place, Flow, Inside}
use Rattle.cpc_forms.specs.Split as S
use Rattle.cpc_forms_code.specs.declared.boxed.Variable.{Variable}
use Rattle.cpc_forms_code.specs.declared.graph.Node.{Node}
use Rattle.cpc_forms_code.specs.declared.graph.GraphFunction.{GraphFunction}
use Rattle.cpc_forms_code.specs.declared.split.Owner.{Owner}
use Rattle.cpc_forms_code.specs.declared.split.SplitFunction.{SplitFunction}
use Rattle.cpc_forms_code.specs.Programs.{program_by, IsSpelled}
use Rattle.cpc_forms_code.specs.Points.{IsBoxed}
use Rattle.cpc_forms_code.specs.Graphs.{node_seen, IsGraph}
use Rattle.cpc_forms_code.specs.Splits.{places_of, IsSplit}
use Rattle.cpc_split.specs.declared.steps.Step.{Step}
use Rattle.cpc_split.specs.Steps.{flow_by, step_of, steps_in}
use Rattle.cpc_split.proofs.Nodes.{steps_split}

-- the steps up to here, with the step of one node more
pub steps_more : (names : Names) (vs : List Variable) (ns : List Node) (i : ℕ) (n : Node) → i < length ns → n ≡ get_or ns i n
    → (old new : List Step) (s : Step) → old ≡ map step_of (map (node_seen names vs) (take i ns)) → s ≡ step_of (node_seen names vs n) → new ≡ old ++ s ∷ []
    → new ≡ map step_of (map (node_seen names vs) (take (i + 1) ns))
steps_more names vs ns i n h q old new s d e f =
    let seen = node_seen names vs in
    f ∙ (ap (λ l. l ++ s ∷ []) d ∙ (ap (λ x. map step_of (map seen (take i ns)) ++ x ∷ []) e
    ∙ (sym (map_push step_of (map seen (take i ns)) (seen n)) ∙ (ap (map step_of) (sym (map_push seen (take i ns) n))
    ∙ ap (λ l. map step_of (map seen l)) (sym (take_more ns i n h ∙ ap (λ x. take i ns ++ x ∷ []) (sym q)))))))

inside_prop : (flow : Flow) → IsProp (Inside flow)
inside_prop flow = hlevel props

abbrev split : G.Graph → List (Option Place) → List ℕ → S.Split
split g os ls = record { graph = g; owners = os; leaders = ls }

module _ (g : GraphFunction) (steps : List Step) (are : (names : Names) (vs : List Variable) → steps ≡ map step_of (map (node_seen names vs) g.nodes.items)) where
  same_flow : IsGraph g.boxed.now g.nodes.items → (names : Names) → IsSpelled names g.boxed.now.source.now g.boxed.now.function.now
      → flow_by 0 steps ≡ flow_by (G.graph_of (program_by names g.boxed.now.source.now) (function_of names g.boxed.now.function.now)).entry (steps_in (program_by names g.boxed.now.source.now) (function_of names g.boxed.now.function.now))
  same_flow is names told = ap (flow_by 0) (are names g.boxed.now.variables.items) ∙ ap (λ (h : G.Graph). flow_by h.entry (map step_of h.nodes)) (is.graph names told)

  -- control stays inside of the graph
  pub stays_inside : ∥ IsBoxed g.boxed.now.source.now g.boxed.now.function.now g.boxed.now.variables.items g.boxed.now.points.items ∥₁ → ∥ IsGraph g.boxed.now g.nodes.items ∥₁ → Inside (flow_by 0 steps)
  stays_inside boxed graph =
      ∥∥₁_elim boxed (inside_prop (flow_by 0 steps)) (λ b. ∥∥₁_elim graph (inside_prop (flow_by 0 steps)) (λ is.
      subst Inside (sym (same_flow is b.names b.spelled)) (steps_split (program_by b.names g.boxed.now.source.now) (function_of b.names g.boxed.now.function.now)).0))

  pub is_split : (os : List (Option Owner)) (ls : List ℕ) → places_of os ≡ S.owners_from (flow_by 0 steps) 0 (length steps) → ls ≡ S.leaders_from (flow_by 0 steps) 0 (length steps)
      → ∥ IsGraph g.boxed.now g.nodes.items ∥₁ → ∥ IsSplit g os ls ∥₁
  is_split os ls e f graph = ∥∥₁_map graph (λ is. record {
    split = λ names told.
        let p = program_by names g.boxed.now.source.now in
        let fn = function_of names g.boxed.now.function.now in
        let law = steps_split p fn in
        let same = same_flow is names told in
        ap (λ h. split h (places_of os) ls) (is.graph names told)
        ∙ (ap (λ o. split (G.graph_of p fn) o ls) (e ∙ (ap (λ (flow : Flow). S.owners_from flow 0 flow.size) same ∙ law.1))
        ∙ ap (λ l. split (G.graph_of p fn) (S.split_of (G.graph_of p fn)).owners l) (f ∙ (ap (λ (flow : Flow). S.leaders_from flow 0 flow.size) same ∙ law.2)));
  })

map_both : (xs : List SplitFunction) → map (λ (s : SplitFunction). s.graph.now.boxed.now.function.now) xs ≡ map (λ (g : GraphFunction). g.boxed.now.function.now) (map (λ (s : SplitFunction). s.graph.now) xs)
map_both [] = refl
map_both (x ∷ xs) = ap (λ l. x.graph.now.boxed.now.function.now ∷ l) (map_both xs)

-- the functions that are split are those of the graphs
pub functions_same : (ss : List SplitFunction) (gs : List GraphFunction) (i : ℕ) → map (λ (s : SplitFunction). s.graph.now) ss ≡ take i gs → length gs ≤ i
    → map (λ (s : SplitFunction). s.graph.now.boxed.now.function.now) ss ≡ map (λ (g : GraphFunction). g.boxed.now.function.now) gs
functions_same ss gs i e h = map_both ss ∙ ap (map (λ (g : GraphFunction). g.boxed.now.function.now)) (e ∙ take_all i gs h)
