use Rattle.cpc_convert_image_laws.proofs.Theorems as theorems
use Rattle.cpc_convert_image_laws.proofs.laws.native_spawns_are_calls.Goals as goal

pub returns : goal.returns
returns c = record { law = theorems.native_spawns_are_calls }
