use Rattle.cpc_check_laws.proofs.Kept.LayerRuns as L
use Rattle.cpc_check_laws.proofs.laws.threads_hold.Goals as goal

pub returns : goal.returns
returns g c = record { law = L.threads_hold }
