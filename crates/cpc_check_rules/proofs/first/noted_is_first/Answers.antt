use Rattle.cpc_check_rules.proofs.Firsts.{is_first, is_none}
use Rattle.cpc_check_rules.proofs.first.noted_is_first.Goals as goal

pub returns-clause-first : goal.returns-clause-first
returns-clause-first c = is_first

pub returns-clause-nothing : goal.returns-clause-nothing
returns-clause-nothing c = is_none
