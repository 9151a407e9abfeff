use Rattle.cpc_check_laws.proofs.Kept.Passing as L
use Rattle.cpc_check_laws.proofs.laws.ways_hold.Goals as goal

pub returns : goal.returns
returns c = record { law = L.ways_hold }
