use Rattle.cpc_convert_image_laws.proofs.Theorems as theorems
use Rattle.cpc_convert_image_laws.proofs.laws.arrivals_do_same.Goals as goal

pub returns : goal.returns
returns c = record { law = theorems.arrivals_do_same }
