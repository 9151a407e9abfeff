use Rattle.std.proofs.Common.{Ok, Err, Some, None, refl, sym}
use Rattle.cpc_tree.specs.Erase.{expr_of, exprs_of}
use Rattle.cpc_num.specs.declared.kinds.Fault.TheVariants.{Kind}
use Rattle.cpc_meaning.specs.Answer.{◌>>=◌, needed}
use Rattle.cpc_meaning.specs.Eval as E
use Rattle.cpc_meaning.specs.Act as M
use Rattle.cpc_eval_values.specs.Shown.{value_of}
use Rattle.cpc_eval.specs.Around.{context_of, type_in}
use Rattle.cpc_eval.specs.Shapes.{shape_of, types_of}
use Rattle.cpc_native_plans.specs.Calls.{called_with, entering}
use Rattle.cpc_native_plans.specs.declared.plan.Plan.TheVariants as L
use Rattle.cpc_native_plans.proofs.Laying.{lays_by, lays_after, lays_used, lays_same}
use Rattle.cpc_native_plans.proofs.Calling.{value_calls}
use Rattle.cpc_native_plans.proofs.plan.calls_value.Goals as goal

pub returns-in-Some-clause-value : goal.returns-in-Some-clause-value
returns-in-Some-clause-value c = λ names told hf hes.
    let k = context_of names c.args.around.now in
    let f = expr_of names c.args.function.now in
    let es = exprs_of names c.args.arguments.now in
    let t = shape_of names c.in-Some.shape in
    let v = value_of names c.in_ok-called.called.value in
    let plan = L.Calls c.in_ok-called.called.value c.in-Some.shape c.args.arguments in
    lays_by names k (Ok plan) _ (M.calls_value k f es) (sym (value_calls k f es))
    (lays_after names k v (E.value k f) (λ w. needed (E.used_type k f) >>= (λ u. called_with k u w es >>= entering k)) (Ok plan) (c.in_ok-called.ensures.value names told hf)
    (lays_used names k (types_of names c.in_ok-called.called.typed) (type_in k f) (Some t) (λ u. called_with k u v es >>= entering k) (Ok plan) hes (c.in_ok-called.ensures.typed names told) (c.in-Some.ensures names)
    (lays_same names k plan _ hes refl)))

pub returns-in-None-clause-value : goal.returns-in-None-clause-value
returns-in-None-clause-value c = λ names told hf hes.
    let k = context_of names c.args.around.now in
    let f = expr_of names c.args.function.now in
    let es = exprs_of names c.args.arguments.now in
    let v = value_of names c.in_ok-called.called.value in
    lays_by names k (Err Kind) _ (M.calls_value k f es) (sym (value_calls k f es))
    (lays_after names k v (E.value k f) (λ w. needed (E.used_type k f) >>= (λ u. called_with k u w es >>= entering k)) (Err Kind) (c.in_ok-called.ensures.value names told hf)
    (lays_used names k (types_of names c.in_ok-called.called.typed) (type_in k f) None (λ u. called_with k u v es >>= entering k) (Err Kind) tt (c.in_ok-called.ensures.typed names told) (c.in-None.ensures names) tt))
