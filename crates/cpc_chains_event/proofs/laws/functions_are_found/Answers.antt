use Rattle.cpc_chains_event.proofs.Lookups as L
use Rattle.cpc_chains_event.proofs.laws.functions_are_found.Goals as goal

pub returns : goal.returns
returns c = record { law = L.functions_found }
