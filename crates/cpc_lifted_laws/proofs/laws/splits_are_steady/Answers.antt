use Rattle.cpc_lifted_laws.proofs.Accepted.Steady as L
use Rattle.cpc_lifted_laws.proofs.laws.splits_are_steady.Goals as goal

pub returns : goal.returns
returns c = record { law = L.splits_are_steady }
