use Rattle.cpc_convert_flat_laws.proofs.Beside.{slots_beside, freed_beside}
use Rattle.cpc_convert_flat_laws.proofs.laws.frames_are_beside.Goals as goal

pub returns : goal.returns
returns c = record { law = record { made = slots_beside; freed = freed_beside } }
