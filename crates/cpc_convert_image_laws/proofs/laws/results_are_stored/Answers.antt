use Rattle.cpc_convert_image_laws.proofs.Theorems as theorems
use Rattle.cpc_convert_image_laws.proofs.laws.results_are_stored.Goals as goal

pub returns : goal.returns
returns c = record { law = theorems.results_are_stored }
