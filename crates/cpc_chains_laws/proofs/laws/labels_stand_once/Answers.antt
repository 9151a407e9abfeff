use Rattle.cpc_chains_laws.proofs.RowBodies.Labels as L
use Rattle.cpc_chains_laws.proofs.laws.labels_stand_once.Goals as goal

pub returns : goal.returns
returns c = record { law = L.labels_stand_once }
