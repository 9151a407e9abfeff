use Rattle.cpc_convert_image_laws.proofs.Theorems as theorems
use Rattle.cpc_convert_image_laws.proofs.laws.arrivals_are_assigned.Goals as goal

pub returns : goal.returns
returns c = record { law = theorems.arrivals_are_assigned }
