use Rattle.cpc_lifted_laws.proofs.Accepted.Pieces as L
use Rattle.cpc_lifted_laws.proofs.laws.accepted_suits_pieces.Goals as goal

pub returns : goal.returns
returns c = record { law = L.accepted_suits_pieces }
