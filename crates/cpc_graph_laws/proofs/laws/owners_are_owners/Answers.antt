use Rattle.cpc_graph_laws.proofs.Owned as L
use Rattle.cpc_graph_laws.proofs.laws.owners_are_owners.Goals as goal

pub returns : goal.returns
returns c = record { law = L.owners_are_owners }
