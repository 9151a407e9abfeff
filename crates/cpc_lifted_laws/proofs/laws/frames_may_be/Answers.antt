use Rattle.cpc_lifted_laws.proofs.Native.Arriving as L
use Rattle.cpc_lifted_laws.proofs.laws.frames_may_be.Goals as goal

pub returns : goal.returns
returns c = record { law = L.frames_may_be }
