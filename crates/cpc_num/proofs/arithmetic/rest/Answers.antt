use Rattle.std.proofs.Common.{sym, subst}
use Rattle.std.proofs.lemmas.Int.{rem_is}
use Rattle.std.specs.Int.{w128}
use Rattle.cpc_num.specs.Number.{IsOf}
use Rattle.cpc_num.proofs.ResultLemmas.{rem_between}
use Rattle.cpc_num.proofs.arithmetic.rest.Goals as goal

pub returns-clause-value : goal.returns-clause-value
returns-clause-value c = rem_is w128 c.args.left c.args.right c.ranges.left c.ranges.right

pub returns-clause-kept : goal.returns-clause-kept
returns-clause-kept c = subst (IsOf c.args.kind) (sym (returns-clause-value c)) (rem_between c.args.kind c.args.left c.args.right c.requires.left_of_kind)
