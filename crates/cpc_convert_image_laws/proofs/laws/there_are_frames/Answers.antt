use Rattle.cpc_convert_image_laws.proofs.Example as example
use Rattle.cpc_convert_image_laws.proofs.laws.there_are_frames.Goals as goal

pub returns : goal.returns
returns c = record { law = example.there_are_frames }
