use Rattle.cpc_lifted_laws.proofs.Accepted.Functions as L
use Rattle.cpc_lifted_laws.proofs.laws.scopes_mean_variables.Goals as goal

pub returns : goal.returns
returns c = record { law = L.scopes_mean_variables }
