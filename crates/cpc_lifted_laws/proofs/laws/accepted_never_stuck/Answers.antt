use Rattle.cpc_lifted_laws.proofs.Accepted.Steady as L
use Rattle.cpc_lifted_laws.proofs.laws.accepted_never_stuck.Goals as goal

pub returns : goal.returns
returns c = record { law = L.accepted_never_stuck }
