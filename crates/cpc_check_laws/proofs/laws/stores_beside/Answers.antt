use Rattle.cpc_check_laws.proofs.Kept.BesideParts as L
use Rattle.cpc_check_laws.proofs.laws.stores_beside.Goals as goal

pub returns : goal.returns
returns c = record { law = L.stores_beside }
