use Rattle.cpc_graph_laws.proofs.Splits as L
use Rattle.cpc_graph_laws.proofs.laws.splits_follow.Goals as goal

pub returns : goal.returns
returns c = record { law = L.splits_follow }
