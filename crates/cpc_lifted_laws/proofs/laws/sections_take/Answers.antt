use Rattle.cpc_lifted_laws.proofs.Runs.Sections as L
use Rattle.cpc_lifted_laws.proofs.laws.sections_take.Goals as goal

pub returns : goal.returns
returns c = record { law = L.sections_take }
