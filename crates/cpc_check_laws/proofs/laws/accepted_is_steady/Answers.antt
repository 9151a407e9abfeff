use Rattle.cpc_check_laws.proofs.Kept.Trees as L
use Rattle.cpc_check_laws.proofs.laws.accepted_is_steady.Goals as goal

pub returns : goal.returns
returns c = record { law = L.accepted_is_steady }
