use Rattle.cpc_check_laws.proofs.Run.Native as L
use Rattle.cpc_check_laws.proofs.laws.native_is_plain.Goals as goal

pub returns : goal.returns
returns c = record { law = L.native_is_plain }
