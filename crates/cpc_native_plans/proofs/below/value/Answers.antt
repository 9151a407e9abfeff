use Rattle.cpc_eval_values.specs.Shown.{value_of}
use Rattle.cpc_native_plans.proofs.Stopping.{or_stopped}
use Rattle.cpc_native_plans.proofs.below.value.Goals as goal

pub returns-clause-value : goal.returns-clause-value
returns-clause-value c = λ names told n. or_stopped (value_of names) c.value.result c.stopped.result _ c.stopped.ensures (c.value.ensures.value names told n)
