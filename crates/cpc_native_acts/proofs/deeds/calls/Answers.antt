use Rattle.std.proofs.Common.{refl}
use Rattle.cpc_tree.specs.Erase.{exprs_of}
use Rattle.cpc_eval_values.specs.Shown.{value_of, values_of}
use Rattle.cpc_eval.specs.Around.{context_of}
use Rattle.cpc_eval.specs.Shapes.{shape_of}
use Rattle.cpc_native_plans.specs.Calls.{called_with, entering}
use Rattle.cpc_native_acts.specs.declared.deeds.Deed.TheVariants as D
use Rattle.cpc_native_acts.proofs.Planned.{plans_then, plans_through}
use Rattle.cpc_native_acts.proofs.deeds.calls.Goals as goal

pub returns-in_err-name-clause-value : goal.returns-in_err-name-clause-value
returns-in_err-name-clause-value c = λ names told hes.
    let k = context_of names c.args.around.now in
    let es = exprs_of names c.args.arguments.now in
    plans_through names k c.from_residual.result _ (called_with k (shape_of names c.args.shape) (value_of names c.args.called) es) (entering k) c.from_residual.ensures.1 (c.in_err-name.ensures.value names told hes)

pub returns-clause-value : goal.returns-clause-value
returns-clause-value c = λ names told hes.
    let k = context_of names c.args.around.now in
    let es = exprs_of names c.args.arguments.now in
    plans_then names k (names c.in_ok-name.name, values_of names c.in_ok-name.row.items) (called_with k (shape_of names c.args.shape) (value_of names c.args.called) es) (entering k)
    (D.Enters c.in_ok-name.name c.in_ok-name.row) (c.in_ok-name.ensures.value names told hes) refl
