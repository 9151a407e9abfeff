use Rattle.cpc_graph_laws.proofs.Going as L
use Rattle.cpc_graph_laws.proofs.laws.calls_arrive.Goals as goal

pub returns : goal.returns
returns c = record { law = L.calls_arrive }
