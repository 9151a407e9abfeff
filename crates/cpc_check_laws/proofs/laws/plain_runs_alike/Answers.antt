use Rattle.cpc_check_laws.proofs.Run.Alike as L
use Rattle.cpc_check_laws.proofs.laws.plain_runs_alike.Goals as goal

pub returns : goal.returns
returns c = record { law = L.plain_runs_alike }
