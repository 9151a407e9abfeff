use Rattle.cpc_convert_flat_laws.proofs.Unboxes.{unboxes_walk, unboxes_fault}
use Rattle.cpc_convert_flat_laws.proofs.laws.boxes_are_freed.Goals as goal

pub returns : goal.returns
returns c = record { law = record { gives = unboxes_walk; faults = unboxes_fault } }
