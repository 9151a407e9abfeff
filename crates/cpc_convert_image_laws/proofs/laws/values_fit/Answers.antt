use Rattle.cpc_convert_image_laws.proofs.Theorems as theorems
use Rattle.cpc_convert_image_laws.proofs.laws.values_fit.Goals as goal

pub returns : goal.returns
returns c = record { law = theorems.values_fit }
