use Rattle.cpc_chains_laws.proofs.Leak.Theorem as L
use Rattle.cpc_chains_laws.proofs.laws.converted_rests_with_held_frames.Goals as goal

pub returns : goal.returns
returns c = record { law = L.converted_rests }
