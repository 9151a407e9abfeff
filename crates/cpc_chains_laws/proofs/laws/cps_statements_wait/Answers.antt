use Rattle.cpc_chains_laws.proofs.Wait.Behind as L
use Rattle.cpc_chains_laws.proofs.Wait.Waits as W
use Rattle.cpc_chains_laws.proofs.laws.cps_statements_wait.Goals as goal

-- what the pieces of nodes do speaks of settings, of which no clause can speak; it is checked with this one
pub returns : goal.returns
returns c = let waits = W.waits in record { law = L.cps_statements }
