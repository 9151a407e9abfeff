use Rattle.cpc_chains_laws.proofs.RowBodies.Theorem as L
use Rattle.cpc_chains_laws.proofs.laws.converted_unbroken.Goals as goal

pub returns : goal.returns
returns c = record { law = L.converted_unbroken }
