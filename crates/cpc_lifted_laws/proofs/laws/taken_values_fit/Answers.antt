use Rattle.cpc_lifted_laws.proofs.Arrival.Split as L
use Rattle.cpc_lifted_laws.proofs.laws.taken_values_fit.Goals as goal

pub returns : goal.returns
returns c = record { law = L.taken_values_fit }
