use Rattle.std.proofs.Common.{arith}
use Rattle.cpc_chains_event.specs.Pieces.{is_entry}
use Rattle.cpc_chains_opening.proofs.Found.{one_found, one_past, none_found}
use Rattle.cpc_chains_opening.proofs.calls.any_calls.Goals as goal

pub returns-then-calls_at : goal.returns-then-calls_at
returns-then-calls_at c = λ source from to p r st entries.
    one_found r (λ node. is_entry p node.stood) c.args.nodes.now c.loop-number.number-index c.calls_at.result _ (omega arith) c.if-calls_at.true (c.calls_at.ensures source from to p r st entries) (c.loop-number.invariant source from to p r st entries)

pub loop-number-preserved : goal.loop-number-preserved
loop-number-preserved c = λ source from to p r st entries.
    one_past r (λ node. is_entry p node.stood) c.args.nodes.now c.loop-number.number-index c.calls_at.result _ (omega arith) c.if-calls_at.false (c.calls_at.ensures source from to p r st entries) (c.loop-number.invariant source from to p r st entries)

pub returns : goal.returns
returns c = λ source from to p r st entries. none_found r (λ node. is_entry p node.stood) c.args.nodes.now c.loop-number.number-index _ (omega arith) (c.loop-number.invariant source from to p r st entries)
