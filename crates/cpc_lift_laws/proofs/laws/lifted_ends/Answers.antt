use Rattle.cpc_lift_laws.proofs.Lifting as L
use Rattle.cpc_lift_laws.proofs.laws.lifted_ends.Goals as goal

pub returns : goal.returns
returns g c = record { law = L.lifted_ends _ }
