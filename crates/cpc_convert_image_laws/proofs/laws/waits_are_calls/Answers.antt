use Rattle.cpc_convert_image_laws.proofs.Theorems as theorems
use Rattle.cpc_convert_image_laws.proofs.laws.waits_are_calls.Goals as goal

pub returns : goal.returns
returns c = record { law = theorems.waits_are_calls }
