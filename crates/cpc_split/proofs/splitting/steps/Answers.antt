use Rattle.std.proofs.Common.{arith}
use Rattle.cpc_split.proofs.Parted.{steps_more}
use Rattle.cpc_split.proofs.splitting.steps.Goals as goal

pub loop-node-preserved : goal.loop-node-preserved
loop-node-preserved c = λ names vs.
    steps_more names vs c.args.nodes.now c.loop-node.node-index c.node-item.result (omega arith) c.node-item.is _ _ c.step.result (c.loop-node.invariant names vs) (c.step.ensures names vs) c.in_ok-push.ensures.items
