use Rattle.cpc_graph_laws.proofs.Reached as L
use Rattle.cpc_graph_laws.proofs.laws.reached_is_owned.Goals as goal

pub returns : goal.returns
returns c = record { law = L.reached_is_owned }
