use Rattle.cpc_check_laws.proofs.Sound.Threads as M
use Rattle.cpc_check_laws.proofs.laws.typed_threads_never_stuck.Goals as goal

pub returns : goal.returns
returns c = M.threads_never_stuck
