use Rattle.cpc_eval_index.proofs.Kept.{rows_more, rows_all}
use Rattle.cpc_eval_index.proofs.bodies.function_tables.Goals as goal

pub loop-item-preserved : goal.loop-item-preserved
loop-item-preserved c =
    let l = c.loop-item in
    rows_more l.rows.items c.push.new.self.items c.in_ok-row.row c.args.list.now l.item-index c.item-item.result c.loop-item-test.true c.item-item.is c.in_ok-push.ensures.items c.in_ok-row.ensures l.invariant

pub returns : goal.returns
returns c = rows_all c.loop-item.rows.items c.args.list.now c.loop-item.item-index c.loop-item-test.false c.loop-item.invariant
