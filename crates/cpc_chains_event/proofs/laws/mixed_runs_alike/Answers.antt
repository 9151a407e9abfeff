use Rattle.cpc_chains_event.proofs.Mixed as L
use Rattle.cpc_chains_event.proofs.laws.mixed_runs_alike.Goals as goal

pub returns : goal.returns
returns c = record { law = L.mixed_alike }
