use Rattle.cpc_lift_laws.proofs.Refused as L
use Rattle.cpc_lift_laws.proofs.laws.what_is_kept_is_needed.Goals as goal

pub returns : goal.returns
returns c = record { law = L.what_is_kept_is_needed }
