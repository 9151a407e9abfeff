-- Graphs of the code.
use Rattle.std.specs.Prelude.{◌≡◌, List, map}
use Rattle.cpc_tree.specs.Erase.{Names, function_of}
use Rattle.cpc_forms.specs.Graph as G
use Rattle.cpc_forms_code.specs.declared.boxed.Variable.{Variable}
use Rattle.cpc_forms_code.specs.declared.boxed.BoxedFunction.{BoxedFunction}
use Rattle.cpc_forms_code.specs.declared.graph.Node.{Node}
use Rattle.cpc_forms_code.specs.Programs.{program_by, IsSpelled}
use Rattle.cpc_forms_code.specs.Seen.{manner_seen, stood_seen, scope_seen}

-- a node, where these are the variables
abbrev pub node_seen : Names → List Variable → Node → G.Node
node_seen names vs n = record {
  stood = stood_seen names n.stood;
  scope = scope_seen names vs n.scope;
  manner = manner_seen n.manner;
  yes = n.yes;
  no = n.no;
  arrival = n.arrival;
}

-- the graph of a function with these variables and these nodes
abbrev pub graph_seen : Names → List Variable → List Node → G.Graph
graph_seen names vs ns = record { entry = 0; nodes = map (node_seen names vs) ns }

-- these nodes are the graph of a boxed function, by any texts that tell the names of its program
pub record IsGraph (b : BoxedFunction) (ns : List Node) : Type 0 where
  pub graph : (names : Names) → IsSpelled names b.source.now b.function.now → graph_seen names b.variables.items ns ≡ G.graph_of (program_by names b.source.now) (function_of names b.function.now)
