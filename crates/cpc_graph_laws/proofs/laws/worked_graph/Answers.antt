use Rattle.cpc_graph_laws.proofs.Worked as L
use Rattle.cpc_graph_laws.proofs.laws.worked_graph.Goals as goal

pub returns : goal.returns
returns c = record { ways = L.worked_ways; owners = L.worked_owners }
