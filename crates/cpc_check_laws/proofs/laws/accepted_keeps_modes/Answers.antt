use Rattle.cpc_check_laws.proofs.Kept.Modes as L
use Rattle.cpc_check_laws.proofs.laws.accepted_keeps_modes.Goals as goal

pub returns : goal.returns
returns c = record { law = L.accepted_keeps_modes }
