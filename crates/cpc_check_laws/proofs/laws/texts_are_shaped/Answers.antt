use Rattle.cpc_check_laws.proofs.Run.Shaped as L
use Rattle.cpc_check_laws.proofs.laws.texts_are_shaped.Goals as goal

pub returns : goal.returns
returns c = record { law = L.texts_are_shaped }
