-- What the rows of pieces have to know of a function: a step for each node, the leaders, and the nodes of each owner.
use Rattle.std.specs.Prelude.{◌≡◌, ℕ, suc, ◌<◌, true, false, not, List, [], map, length, get_or, slice_get, All, None, Vec}
use Rattle.std.specs.Global.{Global}
use Rattle.cpc_tree.specs.Erase.{Names}
use Rattle.cpc_forms.specs.Graph.{Node, at_node}
use Rattle.cpc_forms.specs.Flow.{Place}
use Rattle.cpc_forms.specs.Pieces.{owned_from}
use Rattle.cpc_forms_code.specs.declared.split.SplitFunction.{SplitFunction}
use Rattle.cpc_forms_code.specs.declared.split.Owner.{Owner}
use Rattle.cpc_forms_code.specs.Graphs.{node_seen}
use Rattle.cpc_forms_code.specs.Splits.{place_of, places_of}
use Rattle.cpc_convert_routines.specs.Routines.{Routine, owner_number}
use Rattle.cpc_convert_routines.specs.Nodes.{stands_with}
use Rattle.cpc_chains_event.specs.Rows.{behind_call}
use Rattle.cpc_chains_event.specs.Pieces.{is_wait}
use Rattle.cpc_convert_routines.specs.Taken.{is_result}
use Rattle.cpc_convert_rows.specs.Ways.{test_of, falls_of}
use Rattle.cpc_convert_rows.specs.declared.steps.Step.{Step}
use Rattle.cpc_convert_rows.specs.declared.stepped.Stepped.{Stepped}

-- a node as a step
abbrev pub step_of : Routine → Node → Step
step_of r node = record {
  yes = node.yes;
  no = node.no;
  behind = behind_call r node.manner node.arrival;
  test = test_of node.stood node.yes;
  falls = falls_of r node;
  has_row = not (stands_with node.stood node.manner);
  waits = is_wait node.manner node.stood;
  returns = is_result node.stood;
}

-- where there is no node
abbrev pub no_step : Step
no_step = record { yes = None; no = None; behind = None; test = None; falls = None; has_row = true; waits = false; returns = false }

-- the step of a number
abbrev pub step_at : Routine → ℕ → Step
step_at r n = at_node no_step (step_of r) (slice_get r.split.graph.nodes n)

-- a routine is that of this split function, where names are read so
pub record IsOf (names : Names) (s : SplitFunction) (r : Routine) : Type 0 where
  pub entry : r.split.graph.entry ≡ 0
  pub nodes : map (node_seen names s.graph.now.boxed.now.variables.items) s.graph.now.nodes.items ≡ r.split.graph.nodes
  pub owners : places_of s.owners.items ≡ r.split.owners
  pub leaders : r.split.leaders ≡ s.leaders.items
  pub led : All (λ n. n < length s.graph.now.nodes.items) s.leaders.items

-- the nodes of the owner that has this number
abbrev pub owned_by : Stepped → ℕ → List ℕ
owned_by s k = get_or (map (λ (v : Vec ℕ Global). v.items) s.owned.items) k []

-- a routine has these steps
pub record IsStepped (r : Routine) (s : Stepped) : Type 0 where
  pub entry : r.split.graph.entry ≡ 0
  pub steps : s.steps.items ≡ map (step_of r) r.split.graph.nodes
  pub owners : places_of s.split.now.owners.items ≡ r.split.owners
  pub leaders : r.split.leaders ≡ s.split.now.leaders.items
  pub led : All (λ n. n < length s.steps.items) s.split.now.leaders.items
  pub long : length s.owned.items ≡ suc (length s.steps.items)
  pub owned : (l : Place) → owner_number l < length s.owned.items → owned_by s (owner_number l) ≡ owned_from l 0 r.split.owners

-- an owner of the function: its start, or a node
abbrev pub IsOwner : Stepped → Owner → Type 0
IsOwner s o = owner_number (place_of o) < suc (length s.steps.items)
