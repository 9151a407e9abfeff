use Rattle.cpc_convert_needs_laws.proofs.Alike as L
use Rattle.cpc_convert_needs_laws.proofs.laws.lifted_are_alike.Goals as goal

pub returns : goal.returns
returns c = record { law = L.lifted_are_alike }
