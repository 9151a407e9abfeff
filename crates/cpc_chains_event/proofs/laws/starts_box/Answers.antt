use Rattle.cpc_chains_event.proofs.Boxing.{starts_box}
use Rattle.cpc_chains_event.proofs.laws.starts_box.Goals as goal

pub returns : goal.returns
returns c = record { law = starts_box }
