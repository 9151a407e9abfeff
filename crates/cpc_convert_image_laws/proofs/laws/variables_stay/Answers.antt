use Rattle.cpc_convert_image_laws.proofs.Theorems as theorems
use Rattle.cpc_convert_image_laws.proofs.laws.variables_stay.Goals as goal

pub returns : goal.returns
returns c = record { law = theorems.variables_stay }
