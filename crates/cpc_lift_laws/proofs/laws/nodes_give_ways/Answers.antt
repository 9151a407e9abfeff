use Rattle.cpc_lift_laws.proofs.Nodes as L
use Rattle.cpc_lift_laws.proofs.laws.nodes_give_ways.Goals as goal

pub returns : goal.returns
returns g c = record { law = L.nodes_give_ways _ }
