use Rattle.cpc_check_laws.proofs.Sound.Control as C
use Rattle.cpc_check_laws.proofs.laws.control_stays.Goals as goal

pub returns : goal.returns
returns c = C.control_stays
