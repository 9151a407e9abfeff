use Rattle.cpc_check_laws.proofs.Kept.Trees as L
use Rattle.cpc_check_laws.proofs.laws.codes_are_native.Goals as goal

pub returns : goal.returns
returns c = record { law = L.codes_are_native }
