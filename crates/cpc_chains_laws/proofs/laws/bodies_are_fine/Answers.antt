use Rattle.cpc_chains_laws.proofs.RowBodies.Theorem as L
use Rattle.cpc_chains_laws.proofs.laws.bodies_are_fine.Goals as goal

pub returns : goal.returns
returns c = record { law = L.bodies_are_fine }
