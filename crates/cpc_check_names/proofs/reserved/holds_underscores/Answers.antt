use Rattle.std.proofs.Common.{arith}
use Rattle.cpc_check_names.proofs.Spelled.{underscores_step}
use Rattle.cpc_check_names.proofs.reserved.holds_underscores.Goals as goal

pub loop-start-preserved : goal.loop-start-preserved
loop-start-preserved c = underscores_step c.args.text.now c.loop-start.start _ (omega arith) c.begins_with.ensures c.if-begins_with.false c.loop-start.invariant
