use Rattle.cpc_chains_laws.proofs.Return.Kept as L
use Rattle.cpc_chains_laws.proofs.laws.fine_boxes_are_kept.Goals as goal

pub returns : goal.returns
returns c = record { law = L.fine_boxes_are_kept }
