use Rattle.std.proofs.Common.{◌++◌, ◌+◌, ◌∙◌, ap, arith}
use Rattle.std.specs.Prelude.{flat_map}
use Rattle.std.specs.List.{range_with_len}
use Rattle.cpc_sample.specs.Sample.{spawn}
use Rattle.cpc_sample.proofs.Rows.{put_more}
use Rattle.cpc_sample.proofs.put_spawns.Goals as goal

pub loop-number-preserved : goal.loop-number-preserved
loop-number-preserved c = put_more spawn c.loop-number.number (c.loop-number.number + 1) _ _ _ c.loop-number.invariant c.in_ok-put_spawn.ensures (omega arith)

pub returns : goal.returns
returns c = c.loop-number.invariant ∙ ap (λ k. c.args.out.now.items ++ flat_map spawn (range_with_len 0 k)) (omega (arith, c.loop-number.auto.number-end, c.loop-number-test.false))
