use Rattle.cpc_lift_laws.proofs.Closures as L
use Rattle.cpc_lift_laws.proofs.laws.split_is_closed.Goals as goal

pub returns : goal.returns
returns g c = record { law = L.split_is_closed _ _ }
