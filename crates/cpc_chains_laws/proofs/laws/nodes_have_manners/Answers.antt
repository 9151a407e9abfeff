use Rattle.cpc_chains_laws.proofs.Call.Framed as L
use Rattle.cpc_chains_laws.proofs.Call.AtNodes as K
use Rattle.cpc_chains_laws.proofs.laws.nodes_have_manners.Goals as goal

-- what pieces do speaks of settings, of which no clause can speak; it is checked with this one
pub returns : goal.returns
returns c = let calls = K.calls in let sections = K.sections in let spawns = K.spawns in let framed = K.framed in record { law = L.nodes_have_manners }
