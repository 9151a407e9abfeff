use Rattle.cpc_chains_laws.proofs.Runs.Accepted as L
use Rattle.cpc_chains_laws.proofs.laws.cps_functions_are_known.Goals as goal

pub returns : goal.returns
returns c = record { law = L.cps_is_known }
