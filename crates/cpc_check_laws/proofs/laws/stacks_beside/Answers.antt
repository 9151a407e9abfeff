use Rattle.cpc_check_laws.proofs.Kept.BesideActs as L
use Rattle.cpc_check_laws.proofs.laws.stacks_beside.Goals as goal

pub returns : goal.returns
returns g c = record { law = L.stacks_beside }
