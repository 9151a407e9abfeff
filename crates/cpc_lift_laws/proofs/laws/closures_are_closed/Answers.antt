use Rattle.cpc_lift_laws.proofs.Closures as L
use Rattle.cpc_lift_laws.proofs.laws.closures_are_closed.Goals as goal

pub returns : goal.returns
returns g c = record { law = L.closures_are_closed _ _ }
