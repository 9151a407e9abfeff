use Rattle.cpc_lifted_laws.proofs.Arrival.Split as L
use Rattle.cpc_lifted_laws.proofs.laws.leaders_take_values.Goals as goal

pub returns : goal.returns
returns c = record { law = L.leaders_take_values }
