use Rattle.cpc_convert_image_laws.proofs.Theorems as theorems
use Rattle.cpc_convert_image_laws.proofs.laws.stores_are_beside.Goals as goal

pub returns : goal.returns
returns c = record { law = theorems.stores_are_beside }
