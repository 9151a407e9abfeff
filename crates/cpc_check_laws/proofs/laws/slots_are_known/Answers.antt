use Rattle.cpc_check_laws.proofs.Kept.Slots as L
use Rattle.cpc_check_laws.proofs.laws.slots_are_known.Goals as goal

pub returns : goal.returns
returns c = record { law = L.slots_are_known }
