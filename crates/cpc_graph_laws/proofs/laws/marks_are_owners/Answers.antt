use Rattle.cpc_graph_laws.proofs.Marked as L
use Rattle.cpc_graph_laws.proofs.laws.marks_are_owners.Goals as goal

pub returns : goal.returns
returns c = record { law = L.marks_are_owners }
