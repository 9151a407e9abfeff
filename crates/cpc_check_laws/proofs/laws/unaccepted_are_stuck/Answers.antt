use Rattle.cpc_check_laws.proofs.Sound.Worked as W
use Rattle.cpc_check_laws.proofs.laws.unaccepted_are_stuck.Goals as goal

pub returns : goal.returns
returns c = W.unaccepted_are_stuck
