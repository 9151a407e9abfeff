use Rattle.cpc_chains_event.proofs.Heads as L
use Rattle.cpc_chains_event.proofs.laws.pieces_begin.Goals as goal

pub returns : goal.returns
returns c = record { law = L.pieces_begin }
