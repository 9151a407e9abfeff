use Rattle.std.proofs.Common.{refl, sym, subst}
use Rattle.cpc_meaning.specs.Act as M
use Rattle.cpc_native_points.specs.Finds.{found_of}
use Rattle.cpc_eval_values.specs.Shown.{value_of}
use Rattle.cpc_eval.specs.Around.{context_of}
use Rattle.cpc_native_changes.specs.Foreseen.{Foresees}
use Rattle.cpc_native_plans.specs.Plans.{planned, IsSound}
use Rattle.cpc_native_plans.specs.declared.plan.Plan.{Plan}
use Rattle.cpc_native_changes.proofs.changes.comes_to.Goals as goal

pub returns-in-Calls-clause-value : goal.returns-in-Calls-clause-value
returns-in-Calls-clause-value c = λ names told n sound.
    let k = context_of names c.args.around.now in
    let stood = M.AtStatement (found_of names c.args.there) in
    let P : Plan → Type 0 = λ plan. Foresees names k stood c.calls.result (planned names k plan) in
    let S : Plan → Type 0 = IsSound names k in
    subst P (sym c.in-Calls.is) (c.calls.ensures.value names stood told (subst S c.in-Calls.is sound))

pub returns-in-Enters-clause-value : goal.returns-in-Enters-clause-value
returns-in-Enters-clause-value c = λ names told n sound.
    let k = context_of names c.args.around.now in
    let stood = M.AtStatement (found_of names c.args.there) in
    let P : Plan → Type 0 = λ plan. Foresees names k stood c.enters.result (planned names k plan) in
    let S : Plan → Type 0 = IsSound names k in
    let known = subst S c.in-Enters.is sound in
    subst P (sym c.in-Enters.is) (c.enters.ensures.value names stood told known.0 known.1)

pub returns-in-Leaves-clause-value : goal.returns-in-Leaves-clause-value
returns-in-Leaves-clause-value c = λ names told n sound.
    let k = context_of names c.args.around.now in
    let stood = M.AtStatement (found_of names c.args.there) in
    let P : Plan → Type 0 = λ plan. Foresees names k stood c.left.result (planned names k plan) in
    subst P (sym c.in-Leaves.is) (c.left.ensures.value names k stood (value_of names _) refl refl)
