use Rattle.cpc_convert_flat_laws.proofs.Boxes.{boxes_walk}
use Rattle.cpc_convert_flat_laws.proofs.laws.boxes_are_made.Goals as goal

pub returns : goal.returns
returns c = record { law = boxes_walk }
