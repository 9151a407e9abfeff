use Rattle.cpc_lift_laws.proofs.Computed as L
use Rattle.cpc_lift_laws.proofs.laws.search_is_closure.Goals as goal

pub returns : goal.returns
returns g c = record { law = L.search_is_closure _ }
