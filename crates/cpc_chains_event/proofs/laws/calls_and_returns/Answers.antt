use Rattle.cpc_chains_event.proofs.Calls as L
use Rattle.cpc_chains_event.proofs.laws.calls_and_returns.Goals as goal

pub returns : goal.returns
returns c = record { arguments = L.arguments_given; boxes = L.boxes_returned }
