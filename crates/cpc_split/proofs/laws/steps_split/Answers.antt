use Rattle.cpc_split.proofs.Nodes as L
use Rattle.cpc_split.proofs.laws.steps_split.Goals as goal

pub returns : goal.returns
returns c = record { law = L.steps_split }
