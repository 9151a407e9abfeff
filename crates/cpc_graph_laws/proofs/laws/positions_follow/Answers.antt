use Rattle.cpc_graph_laws.proofs.Positions as L
use Rattle.cpc_graph_laws.proofs.laws.positions_follow.Goals as goal

pub returns : goal.returns
returns c = record { law = L.positions_follow }
