use Rattle.cpc_check_laws.proofs.Run.Shaped as L
use Rattle.cpc_check_laws.proofs.laws.native_text_is_plain.Goals as goal

pub returns : goal.returns
returns c = record { law = L.native_text_is_plain }
