use Rattle.cpc_graph_laws.proofs.Leaders as L
use Rattle.cpc_graph_laws.proofs.laws.leaders_are_leaders.Goals as goal

pub returns : goal.returns
returns c = record { law = L.leaders_are_leaders }
