use Rattle.cpc_check_served_laws.proofs.Declared.{accepted_declared}
use Rattle.cpc_check_served_laws.proofs.laws.accepted_ask_declared.Goals as goal

pub returns : goal.returns
returns c = record { law = accepted_declared }
