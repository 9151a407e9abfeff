use Rattle.cpc_lifted_laws.proofs.Accepted.Cut as L
use Rattle.cpc_lifted_laws.proofs.laws.programs_are_split.Goals as goal

pub returns : goal.returns
returns c = record { law = L.programs_are_split }
