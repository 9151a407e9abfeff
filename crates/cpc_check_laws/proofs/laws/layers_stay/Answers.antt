use Rattle.cpc_check_laws.proofs.Kept.LayerRuns as L
use Rattle.cpc_check_laws.proofs.laws.layers_stay.Goals as goal

pub returns : goal.returns
returns g c = record { law = L.layers_stay }
