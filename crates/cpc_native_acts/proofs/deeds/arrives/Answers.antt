use Rattle.std.proofs.Common.{Some}
use Rattle.cpc_meaning.specs.Act as M
use Rattle.cpc_native_points.specs.Finds.{found_of}
use Rattle.cpc_eval_values.specs.Shown.{value_of}
use Rattle.cpc_eval.specs.Around.{context_of}
use Rattle.cpc_native_plans.specs.Plans.{planned}
use Rattle.cpc_native_acts.proofs.Planned.{plans_stands}
use Rattle.cpc_native_acts.proofs.deeds.arrives.Goals as goal

pub returns-in-Ok-clause-value : goal.returns-in-Ok-clause-value
returns-in-Ok-clause-value c = λ names told n.
    let k = context_of names c.args.around.now in
    let lays = c.in-Ok.ensures.value names told n in
    plans_stands names k c.kept.result (planned names k c.in-Ok.plan) (M.arrives k (found_of names c.args.there) (Some (value_of names c.args.given))) lays.1 (c.kept.ensures.value names told lays.0)
