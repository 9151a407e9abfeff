use Rattle.cpc_meaning_laws.proofs.Pointer.Runs.{runs_are_made}
use Rattle.cpc_meaning_laws.proofs.laws.runs_are_made.Goals as goal

pub returns : goal.returns
returns c = record { law = runs_are_made }
