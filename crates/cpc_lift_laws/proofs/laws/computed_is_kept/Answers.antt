use Rattle.cpc_lift_laws.proofs.Computed as L
use Rattle.cpc_lift_laws.proofs.laws.computed_is_kept.Goals as goal

pub returns : goal.returns
returns g c = record { law = L.computed_is_kept _ }
