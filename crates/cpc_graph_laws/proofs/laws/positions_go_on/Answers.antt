use Rattle.cpc_graph_laws.proofs.Going as L
use Rattle.cpc_graph_laws.proofs.laws.positions_go_on.Goals as goal

pub returns : goal.returns
returns c = record { law = L.positions_go_on }
