use Rattle.std.proofs.Common.{Ok, refl, sym, option_map}
use Rattle.cpc_tree.specs.Erase.{type_of, expr_of}
use Rattle.cpc_meaning.specs.Answer.{◌>>=◌}
use Rattle.cpc_meaning.specs.Act as M
use Rattle.cpc_eval_values.specs.Shown.{value_of}
use Rattle.cpc_eval.specs.Around.{context_of}
use Rattle.cpc_native_plans.specs.Parts.{returned}
use Rattle.cpc_native_plans.specs.declared.plan.Plan.TheVariants as L
use Rattle.cpc_native_plans.proofs.Laying.{lays_by, lays_then}
use Rattle.cpc_native_plans.proofs.Doing.{returns_parts}
use Rattle.cpc_native_plans.proofs.plan.returns.Goals as goal

pub returns-clause-value : goal.returns-clause-value
returns-clause-value c = λ names told h.
    let k = context_of names c.args.around.now in
    let t = type_of names c.args.of.now in
    let o = option_map (expr_of names) c.args.given.now in
    let plan = L.Leaves c.in_ok-value.value in
    lays_by names k (Ok plan) (returned k t o >>= M.leaves k) (M.returns k t o) (sym (returns_parts k t o))
    (lays_then names k (value_of names c.in_ok-value.value) (returned k t o) (M.leaves k) plan tt (c.in_ok-value.ensures.value names told h) refl)
