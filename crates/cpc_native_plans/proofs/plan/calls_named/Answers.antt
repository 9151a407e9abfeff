use Rattle.std.proofs.Common.{sym}
use Rattle.cpc_tree.specs.Erase.{expr_of, exprs_of}
use Rattle.cpc_tree.specs.Syntax.{ENamed}
use Rattle.cpc_tree.specs.Typing.{NotMeant}
use Rattle.cpc_meaning.specs.Answer.{Answer}
use Rattle.cpc_meaning.specs.Act as M
use Rattle.cpc_eval_index.specs.Indexed.{items_of}
use Rattle.cpc_eval.specs.Around.{context_of}
use Rattle.cpc_native_plans.specs.Calls.{calls_unmeant}
use Rattle.cpc_native_plans.specs.Plans.{Lays}
use Rattle.cpc_native_plans.proofs.Laying.{lays_by}
use Rattle.cpc_native_plans.proofs.Calling.{meaning_calls}
use Rattle.cpc_native_plans.proofs.Planning.{value_of_name, local_called, global_called, function_called}
use Rattle.cpc_native_plans.proofs.plan.calls_named.Goals as goal

pub returns-in-Some-Local-clause-value : goal.returns-in-Some-Local-clause-value
returns-in-Some-Local-clause-value c = λ names told spells served hf hs hes.
    let k = context_of names c.args.around.now in
    let x = names c.args.name in
    let es = exprs_of names c.args.arguments.now in
    let P : Answer M.Act → Type 0 = Lays names k c.calls_value.result in
    local_called P k x es names c.in-Some-Local.field-0 _ _ c.in-Some-Local.field-0-is (c.in-Some-Local.ensures.meant names told)
    (value_of_name P k (items_of names c.args.around.now.index.now) (expr_of names c.args.function.now) x es hf (λ n. c.calls_value.ensures.value names told n hes))

pub returns-in-Some-Global-clause-value : goal.returns-in-Some-Global-clause-value
returns-in-Some-Global-clause-value c = λ names told spells served hf hs hes.
    let k = context_of names c.args.around.now in
    let x = names c.args.name in
    let es = exprs_of names c.args.arguments.now in
    let P : Answer M.Act → Type 0 = Lays names k c.calls_value-in-Some-Global.result in
    global_called P k x es names c.in-Some-Global.field-0 _ _ c.in-Some-Global.field-0-is (c.in-Some-Global.ensures.meant names told)
    (value_of_name P k (items_of names c.args.around.now.index.now) (expr_of names c.args.function.now) x es hf (λ n. c.calls_value-in-Some-Global.ensures.value names told n hes))

pub returns-in-Some-Function-clause-value : goal.returns-in-Some-Function-clause-value
returns-in-Some-Function-clause-value c = λ names told spells served hf hs hes.
    let k = context_of names c.args.around.now in
    let P : Answer M.Act → Type 0 = Lays names k c.calls_item.result in
    function_called P k (names c.args.name) (exprs_of names c.args.arguments.now) names c.in-Some-Function.field-0 _ _ _
    c.in-Some-Function.field-0-is (c.in-Some-Function.ensures.meant names told) (c.calls_item.ensures.value names told hf hes)

pub returns-in-None-clause-value : goal.returns-in-None-clause-value
returns-in-None-clause-value c = λ names told spells served hf hs hes.
    let k = context_of names c.args.around.now in
    let x = names c.args.name in
    let es = exprs_of names c.args.arguments.now in
    lays_by names k _ (calls_unmeant k x es) (M.calls_expr k (ENamed x) es) (sym (meaning_calls k x es NotMeant (c.in-None.ensures.meant names told))) (c.calls_primitive.ensures.value names told spells hf hs hes)
