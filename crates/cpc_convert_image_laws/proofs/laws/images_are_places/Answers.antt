use Rattle.cpc_convert_image_laws.proofs.Theorems as theorems
use Rattle.cpc_convert_image_laws.proofs.laws.images_are_places.Goals as goal

pub returns : goal.returns
returns c = record { law = theorems.images_are_places }
