use Rattle.cpc_chains_event.proofs.MoreWorked as L
use Rattle.cpc_chains_event.proofs.laws.waits_run_alike.Goals as goal

pub returns : goal.returns
returns c = record { law = record { boxes = L.boxes; unset = L.unset; freed = L.freed; arrays = L.arrays; conditions = L.conditions; timers = L.timers; no_history = L.no_history; descriptors = L.descriptors; sections = L.sections; bad_history = L.bad_history } }
