use Rattle.cpc_convert_image_laws.proofs.Theorems as theorems
use Rattle.cpc_convert_image_laws.proofs.laws.spawns_are_calls.Goals as goal

pub returns : goal.returns
returns c = record { law = theorems.spawns_are_calls }
