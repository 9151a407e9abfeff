use Rattle.cpc_check_laws.proofs.Sound.Worked as W
use Rattle.cpc_check_laws.proofs.laws.examples_are_accepted.Goals as goal

pub returns : goal.returns
returns c = W.examples_are_accepted
