use Rattle.cpc_lifted_laws.proofs.Known.JobRuns as L
use Rattle.cpc_lifted_laws.proofs.laws.lifted_jobs_stay.Goals as goal

pub returns : goal.returns
returns g c = record { law = L.lifted_jobs_stay }
