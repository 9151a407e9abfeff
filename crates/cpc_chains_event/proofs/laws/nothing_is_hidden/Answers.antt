use Rattle.cpc_chains_event.proofs.Scopes as L
use Rattle.cpc_chains_event.proofs.laws.nothing_is_hidden.Goals as goal

pub returns : goal.returns
returns c = record { law = L.nothing_hidden }
