use Rattle.cpc_chains_laws.proofs.Shape.Shape as L
use Rattle.cpc_chains_laws.proofs.laws.accepted_has_the_shape.Goals as goal

pub returns : goal.returns
returns c = record { law = L.accepted_shape }
