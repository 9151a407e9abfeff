use Rattle.cpc_chains_event.proofs.BoxesThere as L
use Rattle.cpc_chains_event.proofs.laws.structs_are_there.Goals as goal

pub returns : goal.returns
returns c = record { law = L.structs_there }
