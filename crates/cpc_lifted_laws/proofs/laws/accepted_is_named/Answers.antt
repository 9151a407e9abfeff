use Rattle.cpc_lifted_laws.proofs.Accepted.Names as L
use Rattle.cpc_lifted_laws.proofs.laws.accepted_is_named.Goals as goal

pub returns : goal.returns
returns c = record { law = L.accepted_is_named }
