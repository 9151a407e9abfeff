use Rattle.std.proofs.Common.{arith}
use Rattle.cpc_convert_rows.proofs.Owning.{node_added}
use Rattle.cpc_convert_rows.proofs.stepped.add_to.Goals as goal

pub returns-then-number-len-clause-rows : goal.returns-then-number-len-clause-rows
returns-then-number-len-clause-rows c = λ k below.
    node_added (λ row. row.items) c.args.rows.now.items c.args.number c.args.node c.index_mut.result.now c.push.new.self k (omega arith) below c.index_mut.ensures.value c.in_ok-push.ensures.items
