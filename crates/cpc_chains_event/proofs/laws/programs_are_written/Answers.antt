use Rattle.cpc_chains_event.proofs.Written as L
use Rattle.cpc_chains_event.proofs.laws.programs_are_written.Goals as goal

pub returns : goal.returns
returns c = record { law = record { counters = L.counters_written; shared = L.shared_written; loop = L.loop_written } }
