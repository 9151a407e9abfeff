use Rattle.cpc_graph_laws.proofs.MoreFacts as L
use Rattle.cpc_graph_laws.proofs.laws.entries_are_first.Goals as goal

pub returns : goal.returns
returns c = record { law = L.entries_are_first }
