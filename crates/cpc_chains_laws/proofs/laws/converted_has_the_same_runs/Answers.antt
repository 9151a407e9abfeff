use Rattle.cpc_chains_laws.proofs.Runs.Theorem as L
use Rattle.cpc_chains_laws.proofs.laws.converted_has_the_same_runs.Goals as goal

pub returns : goal.returns
returns c = record { law = L.converted_runs }
