use Rattle.cpc_check_laws.proofs.Kept.Values as L
use Rattle.cpc_check_laws.proofs.laws.copies_come_back.Goals as goal

pub returns : goal.returns
returns c = record { law = L.copies_come_back }
