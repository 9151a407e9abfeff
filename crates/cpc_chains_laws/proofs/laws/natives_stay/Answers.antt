use Rattle.cpc_chains_laws.proofs.Runs.Natives as L
use Rattle.cpc_chains_laws.proofs.laws.natives_stay.Goals as goal

pub returns : goal.returns
returns c = record { law = L.native_converted }
