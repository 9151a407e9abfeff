use Rattle.cpc_chains_laws.proofs.Native.Wholes as L
use Rattle.cpc_chains_laws.proofs.laws.wholes_are_found.Goals as goal

pub returns : goal.returns
returns c = record { law = L.wholes_are_found }
