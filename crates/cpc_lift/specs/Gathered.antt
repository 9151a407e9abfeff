-- The ways and the uses of nodes, gathered one by one.
use Rattle.std.specs.Prelude.{List, [], ◌∷◌, ◌++◌, Option, Some, None, if◌then◌else◌, ℕ}
use Rattle.cpc_forms.specs.Flow.{Place}
use Rattle.cpc_forms.specs.Graph.{Node}
use Rattle.cpc_forms_code.specs.Lifts.{owner_number}
use Rattle.cpc_lift_laws.specs.Search.{Link}
use Rattle.cpc_lift_laws.specs.Nodes.{links_to}
use Rattle.cpc_lift_laws.specs.Used.{used_at, is_left}
use Rattle.cpc_lift.specs.Ways.{way_of}

-- the ways from a node that l owns, where the nodes have these owners
abbrev pub ways_by : List (Option Place) → Place → Node → List Link
ways_by all l node = way_of l all node.yes ++ (way_of l all node.no ++ way_of l all node.arrival)

-- those from a node that may have an owner
abbrev pub node_ways : List (Option Place) → Option Place → Node → List Link
node_ways all None node = []
node_ways all (Some l) node = ways_by all l node

-- what a node uses that l owns
abbrev pub uses_by : List ℕ → Place → Node → List Link
uses_by boxes l node = links_to (owner_number l) (used_at node.scope node.stood ++ (if is_left node.stood then boxes else []))

abbrev pub node_uses : List ℕ → Option Place → Node → List Link
node_uses boxes None node = []
node_uses boxes (Some l) node = uses_by boxes l node

-- the ways from these nodes, which have these owners
abbrev pub ways_along : List (Option Place) → List Node → List (Option Place) → List Link
ways_along all [] os = []
ways_along all (node ∷ nodes) [] = []
ways_along all (node ∷ nodes) (o ∷ os) = node_ways all o node ++ ways_along all nodes os

-- what they use
abbrev pub uses_along : List ℕ → List Node → List (Option Place) → List Link
uses_along boxes [] os = []
uses_along boxes (node ∷ nodes) [] = []
uses_along boxes (node ∷ nodes) (o ∷ os) = node_uses boxes o node ++ uses_along boxes nodes os
