use Rattle.cpc_chains_laws.proofs.Related.Native as L
use Rattle.cpc_chains_laws.proofs.laws.returns_come_last.Goals as goal

pub returns : goal.returns
returns g c = record { law = L.step_last }
