use Rattle.cpc_check_laws.proofs.Sound.Expressions as E
use Rattle.cpc_check_laws.proofs.laws.expressions_answer.Goals as goal

pub returns : goal.returns
returns c = E.expressions_answer
