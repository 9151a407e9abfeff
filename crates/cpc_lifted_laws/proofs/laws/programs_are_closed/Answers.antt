use Rattle.cpc_lifted_laws.proofs.Accepted.Lifted as L
use Rattle.cpc_lifted_laws.proofs.laws.programs_are_closed.Goals as goal

pub returns : goal.returns
returns c = record { law = L.programs_are_closed }
