use Rattle.cpc_lifted_laws.proofs.Known.BoxRuns as L
use Rattle.cpc_lifted_laws.proofs.laws.lifted_boxes_stay.Goals as goal

pub returns : goal.returns
returns g c = record { law = L.lifted_boxes_stay }
