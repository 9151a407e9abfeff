use Rattle.cpc_chains_laws.proofs.RowBodies.Gotos as L
use Rattle.cpc_chains_laws.proofs.laws.gotos_lead.Goals as goal

pub returns : goal.returns
returns c = record { law = L.gotos_lead }
