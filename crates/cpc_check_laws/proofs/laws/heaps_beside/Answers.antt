use Rattle.cpc_check_laws.proofs.Kept.Beside as L
use Rattle.cpc_check_laws.proofs.laws.heaps_beside.Goals as goal

pub returns : goal.returns
returns c = record { law = L.heaps_beside }
