use Rattle.std.proofs.Common.{◌∙◌}
use Rattle.cpc_eval_values.specs.Shown.{values_of}
use Rattle.std.proofs.Common.{ap}
use Rattle.cpc_run_globals.proofs.Texts.{zeros_next, all_next}
use Rattle.cpc_run_globals.proofs.starts.zeros.Goals as goal

pub loop-scalar-preserved : goal.loop-scalar-preserved
loop-scalar-preserved c = record {
  value = λ names. ap (values_of names) c.in_ok-push.ensures.items ∙ zeros_next names c.loop-scalar.cells.items c.zero_of.result c.args.row.now c.loop-scalar.scalar-index _ c.loop-scalar-test.true (c.loop-scalar.invariant.value names) (c.zero_of.ensures.value names);
  lawful = all_next c.loop-scalar.cells.items c.zero_of.result c.push.new.self.items c.loop-scalar.invariant.lawful c.zero_of.ensures.lawful c.in_ok-push.ensures.items;
}
