use Rattle.cpc_convert_routines.proofs.Closures as L
use Rattle.cpc_convert_routines.proofs.laws.closures_are_lifted.Goals as goal

pub returns : goal.returns
returns c = record { law = L.closures_lifted }
