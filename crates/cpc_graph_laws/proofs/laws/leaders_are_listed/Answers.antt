use Rattle.cpc_graph_laws.proofs.Marked as L
use Rattle.cpc_graph_laws.proofs.laws.leaders_are_listed.Goals as goal

pub returns : goal.returns
returns c = record { law = L.leaders_are_listed }
