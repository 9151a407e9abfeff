use Rattle.cpc_check_laws.proofs.Run.Refused as L
use Rattle.cpc_check_laws.proofs.laws.shape_is_needed.Goals as goal

pub returns : goal.returns
returns c = record { law = L.shape_is_needed }
