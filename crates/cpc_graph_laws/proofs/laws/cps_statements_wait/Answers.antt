use Rattle.cpc_graph_laws.proofs.MoreFacts as L
use Rattle.cpc_graph_laws.proofs.laws.cps_statements_wait.Goals as goal

pub returns : goal.returns
returns c = record { law = L.cps_statements_wait }
