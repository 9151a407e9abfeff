use Rattle.cpc_lifted_laws.proofs.Accepted.Lifted as L
use Rattle.cpc_lifted_laws.proofs.laws.threads_follow.Goals as goal

pub returns : goal.returns
returns c = record { law = L.threads_follow }
