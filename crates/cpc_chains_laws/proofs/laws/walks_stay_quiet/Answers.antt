use Rattle.cpc_chains_laws.proofs.Related.Walking as L
use Rattle.cpc_chains_laws.proofs.laws.walks_stay_quiet.Goals as goal

pub returns : goal.returns
returns c = record { law = L.walk_quiet }
