use Rattle.cpc_chains_event.proofs.Meanings as L
use Rattle.cpc_chains_event.proofs.laws.items_are_meant.Goals as goal

pub returns : goal.returns
returns c = record { law = L.items_meant }
