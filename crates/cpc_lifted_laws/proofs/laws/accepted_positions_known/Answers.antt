use Rattle.cpc_lifted_laws.proofs.Accepted.Points as L
use Rattle.cpc_lifted_laws.proofs.laws.accepted_positions_known.Goals as goal

pub returns : goal.returns
returns c = record { law = L.accepted_positions_known }
