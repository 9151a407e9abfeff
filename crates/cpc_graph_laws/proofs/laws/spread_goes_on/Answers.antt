use Rattle.cpc_graph_laws.proofs.Spreads as L
use Rattle.cpc_graph_laws.proofs.laws.spread_goes_on.Goals as goal

pub returns : goal.returns
returns c = record { law = L.spread_goes_on }
