use Rattle.std.proofs.Common.{ap, ◌∙◌}
use Rattle.cpc_tree.specs.Erase.{in_table, expr_of}
use Rattle.cpc_convert_respawning.proofs.Respawned.{block_respawned, if_respawned, for_respawned, row_more, row_through, one_through}
use Rattle.cpc_convert_respawning.proofs.respawning.+respawned.Goals as goal

pub respawn-returns-in_ok-inner-in-Block : goal.respawn-returns-in_ok-inner-in-Block
respawn-returns-in_ok-inner-in-Block t c = λ table to b e.
    block_respawned (in_table table) to c.args.statement.now e c.in-Block.place c.in-Block.inner c.in_ok-inner-in-Block.inner c.in-Block.is
    (row_through (in_table table) to c.deref.result.now c.in-Block.inner.items c.in_ok-inner-in-Block.inner.items c.deref.ensures.value (c.in_ok-inner-in-Block.ensures table to b))

pub respawn-returns-in_ok-no-in-If : goal.respawn-returns-in_ok-no-in-If
respawn-returns-in_ok-no-in-If t c = λ table to b e.
    if_respawned (in_table table) to c.args.statement.now e c.in-If.place c.in-If.test c.new.result c.in-If.yes c.in_ok-yes-in-If.yes c.in-If.no c.in_ok-no-in-If.no c.in-If.is (ap (expr_of to) c.new.ensures ∙ (c.in_ok-test-in-If.ensures to ∙ ap (expr_of to) c.expr-in-If.ensures))
    (one_through (in_table table) to c.deref-in-If.result.now c.in-If.yes.value c.in_ok-yes-in-If.yes.value c.deref-in-If.ensures (c.in_ok-yes-in-If.ensures table to b))
    (c.in_ok-no-in-If.ensures table to b)

pub respawn-returns-in_ok-body-in-For : goal.respawn-returns-in_ok-body-in-For
respawn-returns-in_ok-body-in-For t c = λ table to b e.
    for_respawned (in_table table) to c.args.statement.now e c.in-For.place c.in-For.first c.in_ok-first-in-For.first c.in-For.test c.in_ok-test-in-For.test c.in-For.step c.in_ok-step-in-For.step c.in-For.body c.in_ok-body-in-For.body c.in-For.is
    (c.in_ok-test-in-For.ensures to)
    (row_through (in_table table) to c.deref-in-For.result.now c.in-For.first.items c.in_ok-first-in-For.first.items c.deref-in-For.ensures.value (c.in_ok-first-in-For.ensures table to b))
    (c.in_ok-step-in-For.ensures table to b)
    (one_through (in_table table) to c.deref-in-For-2.result.now c.in-For.body.value c.in_ok-body-in-For.body.value c.deref-in-For-2.ensures (c.in_ok-body-in-For.ensures table to b))

pub respawn_all-loop-statement-preserved : goal.respawn_all-loop-statement-preserved
respawn_all-loop-statement-preserved t c = λ table to b e.
    row_more (in_table table) to c.args.row.now c.loop-statement.all.items c.push.new.self.items c.loop-statement.statement-index c.statement-item.result c.in_ok-made.made c.loop-statement-test.true c.statement-item.is c.in_ok-push.ensures.items e
    (c.loop-statement.invariant table to b e) (c.in_ok-made.ensures table to b)
