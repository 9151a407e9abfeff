use Rattle.cpc_lifted_laws.proofs.Accepted.Functions as L
use Rattle.cpc_lifted_laws.proofs.laws.accepted_has_main.Goals as goal

pub returns : goal.returns
returns c = record { law = L.accepted_has_main }
