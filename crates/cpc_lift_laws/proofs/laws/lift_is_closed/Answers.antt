use Rattle.cpc_lift_laws.proofs.Lift as L
use Rattle.cpc_lift_laws.proofs.laws.lift_is_closed.Goals as goal

pub returns : goal.returns
returns g c = record { law = L.lift_is_closed _ }
