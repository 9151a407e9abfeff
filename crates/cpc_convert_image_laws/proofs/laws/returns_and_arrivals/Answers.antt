use Rattle.cpc_convert_image_laws.proofs.Theorems as theorems
use Rattle.cpc_convert_image_laws.proofs.laws.returns_and_arrivals.Goals as goal

pub returns : goal.returns
returns c = record { law = theorems.returns_and_arrivals }
