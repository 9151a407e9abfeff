use Rattle.cpc_graph_laws.proofs.MoreFacts as L
use Rattle.cpc_graph_laws.proofs.laws.owners_lead.Goals as goal

pub returns : goal.returns
returns c = record { law = L.owners_lead }
