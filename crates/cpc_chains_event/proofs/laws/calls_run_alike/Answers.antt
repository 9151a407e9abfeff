use Rattle.cpc_chains_event.proofs.Worked as L
use Rattle.cpc_chains_event.proofs.laws.calls_run_alike.Goals as goal

pub returns : goal.returns
returns c = record { law = record { counters = L.counters; jumps = L.jumps; jumps_over_globals = L.jumps_over_globals; loops = L.loops; recursion = L.recursion; cps_main = L.cps_main } }
