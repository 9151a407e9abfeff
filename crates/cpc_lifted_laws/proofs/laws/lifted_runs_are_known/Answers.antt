use Rattle.cpc_lifted_laws.proofs.Accepted.Lifted as L
use Rattle.cpc_lifted_laws.proofs.laws.lifted_runs_are_known.Goals as goal

pub returns : goal.returns
returns c = record { law = L.lifted_runs_are_known }
