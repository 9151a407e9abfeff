use Rattle.cpc_convert_image_laws.proofs.Theorems as theorems
use Rattle.cpc_convert_image_laws.proofs.laws.native_stacks_are_answered.Goals as goal

pub returns : goal.returns
returns g c = record { law = theorems.native_stacks_are_answered _ _ }
