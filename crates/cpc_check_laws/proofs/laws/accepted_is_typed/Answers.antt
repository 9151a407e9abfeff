use Rattle.cpc_check_laws.proofs.Sound.Accepted as A
use Rattle.cpc_check_laws.proofs.laws.accepted_is_typed.Goals as goal

pub returns : goal.returns
returns c = A.accepted_is_typed
