use Rattle.cpc_graph_laws.proofs.MoreFacts as L
use Rattle.cpc_graph_laws.proofs.laws.arrivals_stay.Goals as goal

pub returns : goal.returns
returns c = record { law = L.arrivals_stay }
