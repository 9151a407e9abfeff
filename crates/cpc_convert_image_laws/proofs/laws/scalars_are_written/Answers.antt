use Rattle.cpc_convert_image_laws.proofs.Theorems as theorems
use Rattle.cpc_convert_image_laws.proofs.laws.scalars_are_written.Goals as goal

pub returns : goal.returns
returns c = record { law = theorems.scalars_are_written }
