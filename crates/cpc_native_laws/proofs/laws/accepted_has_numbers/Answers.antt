use Rattle.cpc_native_laws.proofs.Accepted as L
use Rattle.cpc_native_laws.proofs.laws.accepted_has_numbers.Goals as goal

pub returns : goal.returns
returns c = L.accepted_has_numbers
