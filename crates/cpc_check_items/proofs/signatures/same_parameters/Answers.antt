use Rattle.std.proofs.Common.{sym, arith}
use Rattle.cpc_check_items.proofs.Agreeing.{lengths_differ}
use Rattle.cpc_check_items.proofs.signatures.same_parameters.Goals as goal

pub returns-then-list-others : goal.returns-then-list-others
returns-then-list-others c = λ names apart. sym (lengths_differ names c.args.list.now c.args.others.now (λ e. omega arith))
