use Rattle.cpc_chains_event.proofs.MoreWorked as L
use Rattle.cpc_chains_event.proofs.laws.boxes_run_alike.Goals as goal

pub returns : goal.returns
returns c = record { law = record { code = L.boxed_codes; parts = L.boxed_structs; loop = L.first_loop } }
