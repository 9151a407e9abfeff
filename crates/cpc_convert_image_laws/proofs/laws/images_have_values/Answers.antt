use Rattle.cpc_convert_image_laws.proofs.Theorems as theorems
use Rattle.cpc_convert_image_laws.proofs.laws.images_have_values.Goals as goal

pub returns : goal.returns
returns c = record { law = theorems.images_have_values }
