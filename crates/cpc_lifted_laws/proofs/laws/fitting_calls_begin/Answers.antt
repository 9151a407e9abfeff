use Rattle.cpc_lifted_laws.proofs.Wait.Fitting as L
use Rattle.cpc_lifted_laws.proofs.laws.fitting_calls_begin.Goals as goal

pub returns : goal.returns
returns c = record { law = L.fitting_calls }
