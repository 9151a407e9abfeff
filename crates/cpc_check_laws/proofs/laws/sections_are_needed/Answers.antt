use Rattle.cpc_check_laws.proofs.Kept.Refused as L
use Rattle.cpc_check_laws.proofs.laws.sections_are_needed.Goals as goal

pub returns : goal.returns
returns c = record { law = L.sections_are_needed }
