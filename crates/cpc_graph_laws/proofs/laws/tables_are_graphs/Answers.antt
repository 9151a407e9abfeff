use Rattle.cpc_graph_laws.proofs.Tabled as L
use Rattle.cpc_graph_laws.proofs.laws.tables_are_graphs.Goals as goal

pub returns : goal.returns
returns c = record { law = L.tables_are_graphs }
