use Rattle.cpc_chains_laws.proofs.Call.Arrivals as A
use Rattle.cpc_chains_laws.proofs.Call.Framed as L
use Rattle.cpc_chains_laws.proofs.Call.Returned as R
use Rattle.cpc_chains_laws.proofs.laws.framed_calls_arrive.Goals as goal

-- what pieces do speaks of settings, of which no clause can speak; it is checked with this one
pub returns : goal.returns
returns c = let arrivals = A.arrivals in let returned = R.waiting_at in record { law = L.framed_calls_arrive }
