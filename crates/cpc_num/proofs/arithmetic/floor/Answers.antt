use Rattle.std.proofs.Common.{sym, subst, rules}
use Rattle.cpc_num.specs.Number.{IsOf}
use Rattle.cpc_num.proofs.ResultLemmas.{floor_between, int_shr-floor}
use Rattle.cpc_num.proofs.arithmetic.floor.Goals as goal

pub returns-clause-value : goal.returns-clause-value
returns-clause-value c = search (rules, int_shr-floor)

pub returns-clause-kept : goal.returns-clause-kept
returns-clause-kept c = subst (IsOf c.args.kind) (sym (returns-clause-value c)) (floor_between c.args.kind c.args.left _ c.requires.left_of_kind)
