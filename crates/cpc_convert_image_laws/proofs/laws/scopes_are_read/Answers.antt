use Rattle.cpc_convert_image_laws.proofs.Theorems as theorems
use Rattle.cpc_convert_image_laws.proofs.laws.scopes_are_read.Goals as goal

pub returns : goal.returns
returns c = record { law = theorems.scopes_are_read }
