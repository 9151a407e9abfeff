use Rattle.cpc_convert_image_laws.proofs.Example as example
use Rattle.cpc_convert_image_laws.proofs.laws.not_of_images.Goals as goal

pub returns : goal.returns
returns c = record { law = example.not_of_images }
