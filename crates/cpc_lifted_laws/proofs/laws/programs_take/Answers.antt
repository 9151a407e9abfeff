use Rattle.cpc_lifted_laws.proofs.Arrival.Split as L
use Rattle.cpc_lifted_laws.proofs.laws.programs_take.Goals as goal

pub returns : goal.returns
returns c = record { law = L.programs_take }
