use Rattle.std.proofs.Common.{sym}
use Rattle.cpc_tree.specs.Erase.{expr_of}
use Rattle.cpc_meaning.specs.Eval as E
use Rattle.cpc_eval_values.specs.Shown.{value_of}
use Rattle.cpc_eval.specs.Around.{context_of, operate_in, type_in}
use Rattle.cpc_eval_values.proofs.Meeting.{meets_then, meets_through}
use Rattle.cpc_native_plans.proofs.Stopping.{meets_by}
use Rattle.cpc_native_plans.proofs.Doing.{right_is}
use Rattle.cpc_native_plans.proofs.places.right_value.Goals as goal

pub returns-in_err-first-in-Some-clause-value : goal.returns-in_err-first-in-Some-clause-value
returns-in_err-first-in-Some-clause-value c = λ names told n m.
    let around = context_of names c.args.around.now in
    let x = expr_of names c.args.target.now in
    let v = expr_of names c.args.right.now in
    meets_by _ _ _ (sym (right_is around x v c.in-Some.op c.args.op c.in-Some.is))
    (meets_through (value_of names) c.from_residual.result _ (E.value around x) _ c.from_residual.ensures.1 (c.in_err-first-in-Some.ensures.value names told n))

pub returns-in_err-second-in-Some-clause-value : goal.returns-in_err-second-in-Some-clause-value
returns-in_err-second-in-Some-clause-value c = λ names told n m.
    let around = context_of names c.args.around.now in
    let x = expr_of names c.args.target.now in
    let v = expr_of names c.args.right.now in
    meets_by _ _ _ (sym (right_is around x v c.in-Some.op c.args.op c.in-Some.is))
    (meets_then (value_of names c.in_ok-first-in-Some.first.value) (E.value around x) _ _ (c.in_ok-first-in-Some.ensures.value names told n)
    (meets_through (value_of names) c.from_residual-in_err-second-in-Some.result _ (E.value around v) _ c.from_residual-in_err-second-in-Some.ensures.1 (c.in_err-second-in-Some.ensures.value names told m)))

pub returns-in_ok-second-in-Some-clause-value : goal.returns-in_ok-second-in-Some-clause-value
returns-in_ok-second-in-Some-clause-value c = λ names told n m.
    let around = context_of names c.args.around.now in
    let x = expr_of names c.args.target.now in
    let v = expr_of names c.args.right.now in
    let a = value_of names c.in_ok-first-in-Some.first.value in
    let b = value_of names c.in_ok-second-in-Some.second.value in
    meets_by _ _ _ (sym (right_is around x v c.in-Some.op c.args.op c.in-Some.is))
    (meets_then a (E.value around x) _ _ (c.in_ok-first-in-Some.ensures.value names told n)
    (meets_then b (E.value around v) (λ y. operate_in around c.in-Some.op x v a y) _ (c.in_ok-second-in-Some.ensures.value names told m)
    (c.operate_on.ensures.value names (type_in around x) (type_in around v) told.apart (c.in_ok-first-in-Some.ensures.typed names told) (c.in_ok-second-in-Some.ensures.typed names told))))
