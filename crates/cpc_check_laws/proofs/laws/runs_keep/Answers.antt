use Rattle.cpc_check_laws.proofs.Kept.Runs as L
use Rattle.cpc_check_laws.proofs.laws.runs_keep.Goals as goal

pub returns : goal.returns
returns g c = record { law = L.runs_keep }
