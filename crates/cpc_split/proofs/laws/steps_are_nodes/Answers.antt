use Rattle.cpc_split.proofs.Nodes as L
use Rattle.cpc_split.proofs.laws.steps_are_nodes.Goals as goal

pub returns : goal.returns
returns c = record { law = L.steps_are_nodes }
