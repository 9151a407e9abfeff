use Rattle.cpc_convert_image_laws.proofs.Theorems as theorems
use Rattle.cpc_convert_image_laws.proofs.laws.calls_are_entered.Goals as goal

pub returns : goal.returns
returns c = record { law = theorems.calls_are_entered }
