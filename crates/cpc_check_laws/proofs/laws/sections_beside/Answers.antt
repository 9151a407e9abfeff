use Rattle.cpc_check_laws.proofs.Kept.BesideSections as L
use Rattle.cpc_check_laws.proofs.laws.sections_beside.Goals as goal

pub returns : goal.returns
returns g c = record { law = L.sections_beside }
