use Rattle.cpc_lifted_laws.proofs.Arrival.Accepted as L
use Rattle.cpc_lifted_laws.proofs.laws.accepted_takes.Goals as goal

pub returns : goal.returns
returns c = record { law = L.accepted_takes }
