use Rattle.cpc_graph_laws.proofs.Graphs as L
use Rattle.cpc_graph_laws.proofs.laws.graphs_follow.Goals as goal

pub returns : goal.returns
returns c = record { law = L.graphs_follow }
