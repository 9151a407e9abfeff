use Rattle.cpc_check_laws.proofs.Sound.Events as M
use Rattle.cpc_check_laws.proofs.laws.typed_callbacks_never_stuck.Goals as goal

pub returns : goal.returns
returns c = M.callbacks_never_stuck
