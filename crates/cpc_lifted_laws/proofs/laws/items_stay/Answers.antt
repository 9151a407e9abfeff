use Rattle.cpc_lifted_laws.proofs.Related.Sums as L
use Rattle.cpc_lifted_laws.proofs.laws.items_stay.Goals as goal

pub returns : goal.returns
returns g c = record { law = L.items_stay }
