use Rattle.std.proofs.Common.{Some, refl}
use Rattle.cpc_meaning.specs.Act as M
use Rattle.cpc_native_points.specs.Finds.{found_of}
use Rattle.cpc_eval_values.specs.Shown.{value_of}
use Rattle.cpc_eval.specs.Around.{context_of}
use Rattle.cpc_native_plans.specs.Plans.{planned}
use Rattle.cpc_native_changes.proofs.Given.{given_stands, given_fault}
use Rattle.cpc_native_changes.proofs.looked.is_delivered.Goals as goal

pub returns-in-Ok : goal.returns-in-Ok
returns-in-Ok c = λ names told n.
    let k = context_of names c.args.around.now in
    given_stands c.is_done.result (planned names k c.in-Ok.plan) (M.arrives k (found_of names c.args.there) (Some (value_of names c.args.given))) (c.in-Ok.ensures.value names told n).1 (c.is_done.ensures names k refl)

pub returns-in-Err : goal.returns-in-Err
returns-in-Err c = λ names told n.
    given_fault _ (M.arrives (context_of names c.args.around.now) (found_of names c.args.there) (Some (value_of names c.args.given))) (c.in-Err.ensures.value names told n)
