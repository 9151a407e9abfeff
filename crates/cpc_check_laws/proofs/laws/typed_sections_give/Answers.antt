use Rattle.cpc_check_laws.proofs.Kept.Trees as L
use Rattle.cpc_check_laws.proofs.laws.typed_sections_give.Goals as goal

pub returns : goal.returns
returns c = record { law = L.typed_sections_give }
