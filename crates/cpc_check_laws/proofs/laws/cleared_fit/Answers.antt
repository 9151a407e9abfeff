use Rattle.cpc_check_laws.proofs.Kept.Slots as L
use Rattle.cpc_check_laws.proofs.laws.cleared_fit.Goals as goal

pub returns : goal.returns
returns c = record { law = L.cleared_fit }
