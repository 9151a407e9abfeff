use Rattle.cpc_tree.specs.Erase.{type_of}
use Rattle.cpc_meaning.specs.Act as M
use Rattle.cpc_native_points.specs.Finds.{found_of}
use Rattle.cpc_eval.specs.Around.{context_of}
use Rattle.cpc_native_plans.specs.Plans.{planned}
use Rattle.cpc_native_changes.proofs.Given.{foresees_stands, foresees_fault}
use Rattle.cpc_native_changes.proofs.changes.by_plan.Goals as goal

pub returns-in-Ok-clause-value : goal.returns-in-Ok-clause-value
returns-in-Ok-clause-value c = λ names told spells program served n.
    let k = context_of names c.args.around.now in
    let there = found_of names c.args.there in
    let lays = c.in-Ok.ensures.value names told spells program served n in
    foresees_stands names k (M.AtStatement there) c.comes_to.result (planned names k c.in-Ok.plan) (M.found_act k (type_of names c.args.of.now) there) lays.1 (c.comes_to.ensures.value names told n lays.0)

pub returns-in-Err-clause-value : goal.returns-in-Err-clause-value
returns-in-Err-clause-value c = λ names told spells program served n.
    let k = context_of names c.args.around.now in
    let there = found_of names c.args.there in
    foresees_fault names k (M.AtStatement there) _ (M.found_act k (type_of names c.args.of.now) there) (c.in-Err.ensures.value names told spells program served n)
