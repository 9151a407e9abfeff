use Rattle.cpc_lift_laws.proofs.Scopes as L
use Rattle.cpc_lift_laws.proofs.laws.scopes_are_below.Goals as goal

pub returns : goal.returns
returns c = record { law = L.scopes_are_below }
