use Rattle.cpc_lift_laws.proofs.Standing as L
use Rattle.cpc_lift_laws.proofs.laws.lifted_is_same.Goals as goal

pub returns : goal.returns
returns g c = record { law = L.lifted_is_same _ }
