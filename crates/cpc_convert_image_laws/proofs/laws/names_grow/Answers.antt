use Rattle.cpc_convert_image_laws.proofs.Theorems as theorems
use Rattle.cpc_convert_image_laws.proofs.laws.names_grow.Goals as goal

pub returns : goal.returns
returns c = record { law = theorems.names_grow }
