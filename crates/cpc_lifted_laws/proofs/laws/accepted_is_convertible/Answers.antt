use Rattle.cpc_lifted_laws.proofs.Native.Convertible as L
use Rattle.cpc_lifted_laws.proofs.laws.accepted_is_convertible.Goals as goal

pub returns : goal.returns
returns c = record { law = L.accepted_is_convertible }
