use Rattle.cpc_graph_laws.proofs.MoreFacts as L
use Rattle.cpc_graph_laws.proofs.laws.ways_stay_or_lead.Goals as goal

pub returns : goal.returns
returns c = record { law = L.ways_stay_or_lead }
