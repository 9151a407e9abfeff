use Rattle.cpc_chains_laws.proofs.Bodies.Spawners as L
use Rattle.cpc_chains_laws.proofs.laws.spawners_fine.Goals as goal

pub returns : goal.returns
returns c = record { law = L.spawners_fine }
