use Rattle.cpc_graph_laws.proofs.Controls as L
use Rattle.cpc_graph_laws.proofs.laws.ways_are_ways.Goals as goal

pub returns : goal.returns
returns c = record { law = L.ways_are_ways }
