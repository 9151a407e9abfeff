use Rattle.cpc_chains_event.proofs.Flat as L
use Rattle.cpc_chains_event.proofs.laws.pieces_are_flat.Goals as goal

pub returns : goal.returns
returns c = record { flat = L.pieces_flat; stand = L.statements_stand }
