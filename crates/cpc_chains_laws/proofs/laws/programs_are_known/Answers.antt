use Rattle.cpc_chains_laws.proofs.Runs.Accepted as L
use Rattle.cpc_chains_laws.proofs.laws.programs_are_known.Goals as goal

pub returns : goal.returns
returns c = record { law = L.program_is_known }
