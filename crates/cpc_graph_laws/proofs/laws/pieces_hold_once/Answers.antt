use Rattle.cpc_graph_laws.proofs.Owning as L
use Rattle.cpc_graph_laws.proofs.laws.pieces_hold_once.Goals as goal

pub returns : goal.returns
returns c = record { law = L.pieces_hold_once }
