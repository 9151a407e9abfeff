use Rattle.cpc_check_laws.proofs.Kept.BesideActs as L
use Rattle.cpc_check_laws.proofs.laws.code_beside.Goals as goal

pub returns : goal.returns
returns c = record { law = L.code_beside }
