use Rattle.cpc_chains_event.proofs.Locals.{locals_meant}
use Rattle.cpc_chains_event.proofs.laws.locals_are_meant.Goals as goal

pub returns : goal.returns
returns c = record { law = locals_meant }
