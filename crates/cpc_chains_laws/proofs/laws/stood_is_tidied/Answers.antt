use Rattle.cpc_chains_laws.proofs.Piece.Tidied as L
use Rattle.cpc_chains_laws.proofs.laws.stood_is_tidied.Goals as goal

pub returns : goal.returns
returns c = record { law = L.stood_tidied }
