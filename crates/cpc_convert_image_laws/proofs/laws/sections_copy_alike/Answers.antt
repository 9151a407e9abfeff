use Rattle.cpc_convert_image_laws.proofs.Theorems as theorems
use Rattle.cpc_convert_image_laws.proofs.laws.sections_copy_alike.Goals as goal

pub returns : goal.returns
returns c = record { law = theorems.sections_copy_alike }
