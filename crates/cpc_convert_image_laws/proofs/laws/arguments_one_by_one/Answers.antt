use Rattle.cpc_convert_image_laws.proofs.Theorems as theorems
use Rattle.cpc_convert_image_laws.proofs.laws.arguments_one_by_one.Goals as goal

pub returns : goal.returns
returns c = record { law = theorems.arguments_one_by_one }
