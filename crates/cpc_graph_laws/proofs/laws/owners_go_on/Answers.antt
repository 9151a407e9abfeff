use Rattle.cpc_graph_laws.proofs.Marked as L
use Rattle.cpc_graph_laws.proofs.laws.owners_go_on.Goals as goal

pub returns : goal.returns
returns c = record { law = L.owners_go_on }
