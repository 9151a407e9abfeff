use Rattle.cpc_meaning_laws.proofs.Pointer.Answered.{requests_alike}
use Rattle.cpc_meaning_laws.proofs.laws.requests_are_answered_alike.Goals as goal

pub returns : goal.returns
returns c = record { law = requests_alike }
