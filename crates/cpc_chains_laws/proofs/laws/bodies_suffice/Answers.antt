use Rattle.cpc_chains_laws.proofs.Rules.Theorem as L
use Rattle.cpc_chains_laws.proofs.laws.bodies_suffice.Goals as goal

pub returns : goal.returns
returns c = record { law = L.bodies_suffice }
