use Rattle.cpc_check_served_laws.proofs.Served.{accepted_served}
use Rattle.cpc_check_served_laws.proofs.laws.accepted_are_served.Goals as goal

pub returns : goal.returns
returns c = record { law = accepted_served }
