use Rattle.cpc_chains_laws.proofs.Wait.Meant as L
use Rattle.cpc_chains_laws.proofs.laws.starts_are_meant.Goals as goal

pub returns : goal.returns
returns c = record { law = L.starts_meant }
