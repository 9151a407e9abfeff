-- The flow of the steps that code has.
use Rattle.std.specs.Prelude.{◌≡◌, ℕ, Bool, false, ◌==◌, List, [], ◌∷◌, ◌++◌, map, length, slice_get, Option, Some, None}
use Rattle.cpc_tree.specs.Syntax.{Function, Program}
use Rattle.cpc_meaning.specs.Ways.{Manner, AsCps}
use Rattle.cpc_forms.specs.Graph.{Node, Graph, graph_of}
use Rattle.cpc_forms.specs.Flow.{Place, Start, At, Flow, as_list, Inside, resumes_at, flow_of}
use Rattle.cpc_forms.specs.Split.{owners_from, leaders_from, split_of}
use Rattle.cpc_split.specs.declared.steps.Step.{Step}

-- where control goes in a step
abbrev pub step_leads : Step → List ℕ
step_leads s = as_list s.yes ++ (as_list s.no ++ as_list s.call)

-- the same, where there is a node
abbrev pub leads_of : Option Step → List ℕ
leads_of None = []
leads_of (Some s) = step_leads s

-- whether control resumes there
abbrev pub resumes_of : Option Step → Bool
resumes_of None = false
resumes_of (Some s) = s.resumes

-- where control goes from a place
abbrev pub leads_by : (entry : ℕ) → List Step → Place → List ℕ
leads_by entry steps Start = entry ∷ []
leads_by entry steps (At n) = leads_of (slice_get steps n)

-- the flow of a function that begins at a node, with these steps
abbrev pub flow_by : (entry : ℕ) → List Step → Flow
flow_by entry steps = record { size = length steps; leads = leads_by entry steps; resumes = λ n. resumes_of (slice_get steps n) }

-- whether these are one number
abbrev pub same_number : Option ℕ → Option ℕ → Bool
same_number (Some m) (Some n) = m == n
same_number _ _ = false

-- ---- nodes as steps

-- the arrival, except of a cps statement
abbrev pub call_of : Manner → Option ℕ → Option ℕ
call_of AsCps o = None
call_of manner o = o

-- where control goes from a node
abbrev pub step_of : Node → Step
step_of node = record { yes = node.yes; no = node.no; call = call_of node.manner node.arrival; resumes = resumes_at node.stood node.manner }

-- the flow of a graph is that of its nodes' steps
abbrev pub StepsAreNodes : Type 0
StepsAreNodes = (g : Graph) → flow_by g.entry (map step_of g.nodes) ≡ flow_of g

-- the steps of a function's graph
abbrev pub steps_in : Program → Function → List Step
steps_in p f = map step_of (graph_of p f).nodes

-- control stays inside them, and by their flow owners and leaders are those of the split graph
abbrev pub StepsSplit : Type 0
StepsSplit =
    (p : Program) (f : Function)
    → Inside (flow_by (graph_of p f).entry (steps_in p f))
    × (owners_from (flow_by (graph_of p f).entry (steps_in p f)) 0 (length (steps_in p f)) ≡ (split_of (graph_of p f)).owners)
    × (leaders_from (flow_by (graph_of p f).entry (steps_in p f)) 0 (length (steps_in p f)) ≡ (split_of (graph_of p f)).leaders)
