use Rattle.cpc_lift_laws.proofs.Lifting as L
use Rattle.cpc_lift_laws.proofs.laws.lifting_follows.Goals as goal

pub returns : goal.returns
returns g c = record { law = L.lifting_follows _ }
