use Rattle.std.proofs.Common.{ap}
use Rattle.cpc_tree.specs.Erase.{expr_of, exprs_of}
use Rattle.cpc_meaning.specs.Answer.{Answer}
use Rattle.cpc_meaning.specs.Act as M
use Rattle.cpc_eval_index.specs.Indexed.{items_of}
use Rattle.cpc_eval.specs.Around.{context_of}
use Rattle.cpc_native_plans.specs.Calls.{calls_if, calls_known}
use Rattle.cpc_native_plans.specs.Plans.{Lays}
use Rattle.cpc_native_plans.specs.declared.plan.Plan.TheVariants as L
use Rattle.cpc_native_plans.proofs.Laying.{lays_same}
use Rattle.cpc_native_plans.proofs.Planning.{value_of_name, unknown_calls}
use Rattle.cpc_native_plans.proofs.plan.calls_function.Goals as goal

pub returns-in-Some-clause-value : goal.returns-in-Some-clause-value
returns-in-Some-clause-value c = λ names told hf hes.
    let k = context_of names c.args.around.now in
    let x = names c.args.name in
    let es = exprs_of names c.args.arguments.now in
    let e = c.in-Some.ensures names told.apart in
    lays_same names k (L.Enters c.args.name c.in-Some.known c.args.arguments) (calls_known k x es) (e, hes) (ap (calls_if k x es) e)

pub returns-in-None-clause-value : goal.returns-in-None-clause-value
returns-in-None-clause-value c = λ names told hf hes.
    let k = context_of names c.args.around.now in
    let es = exprs_of names c.args.arguments.now in
    let P : Answer M.Act → Type 0 = Lays names k c.calls_value.result in
    unknown_calls P k (names c.args.name) es (c.in-None.ensures names told.apart)
    (value_of_name P k (items_of names c.args.around.now.index.now) (expr_of names c.args.function.now) (names c.args.name) es hf (λ n. c.calls_value.ensures.value names told n hes))
