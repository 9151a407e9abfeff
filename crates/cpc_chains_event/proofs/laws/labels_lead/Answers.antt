use Rattle.cpc_chains_event.proofs.Labels as L
use Rattle.cpc_chains_event.proofs.laws.labels_lead.Goals as goal

pub returns : goal.returns
returns c = record { rows = L.rows_stand_once; labels = L.labels_lead }
