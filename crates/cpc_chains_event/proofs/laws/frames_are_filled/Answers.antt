use Rattle.cpc_chains_event.proofs.Filling.{frames_filled}
use Rattle.cpc_chains_event.proofs.laws.frames_are_filled.Goals as goal

pub returns : goal.returns
returns c = record { law = frames_filled }
