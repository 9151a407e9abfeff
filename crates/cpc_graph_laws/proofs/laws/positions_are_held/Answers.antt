use Rattle.cpc_graph_laws.proofs.Holding as L
use Rattle.cpc_graph_laws.proofs.laws.positions_are_held.Goals as goal

pub returns : goal.returns
returns c = record { law = L.positions_are_held }
