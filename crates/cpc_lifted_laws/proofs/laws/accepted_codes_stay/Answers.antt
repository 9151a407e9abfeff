use Rattle.cpc_lifted_laws.proofs.Accepted.Known as L
use Rattle.cpc_lifted_laws.proofs.laws.accepted_codes_stay.Goals as goal

pub returns : goal.returns
returns c = record { law = L.accepted_codes_stay }
