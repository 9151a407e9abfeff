use Rattle.cpc_check_laws.proofs.Sound.Accepted as A
use Rattle.cpc_check_laws.proofs.laws.accepted_threads_never_stuck.Goals as goal

pub returns : goal.returns
returns c = A.accepted_threads_never_stuck
