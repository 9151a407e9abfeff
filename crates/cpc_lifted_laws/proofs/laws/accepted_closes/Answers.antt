use Rattle.cpc_lifted_laws.proofs.Native.Declared as L
use Rattle.cpc_lifted_laws.proofs.laws.accepted_closes.Goals as goal

pub returns : goal.returns
returns c = record { law = L.accepted_closes }
