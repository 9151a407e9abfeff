use Rattle.cpc_tree.specs.Erase.{expr_of, exprs_of}
use Rattle.cpc_tree.specs.Syntax.{ENamed}
use Rattle.cpc_meaning.specs.Answer.{Answer}
use Rattle.cpc_meaning.specs.Act as M
use Rattle.cpc_eval_index.specs.Indexed.{items_of}
use Rattle.cpc_eval.specs.Around.{context_of}
use Rattle.cpc_tree.specs.PrimitiveNames.{primitive_of}
use Rattle.cpc_native_builtins.specs.declared.call.Call.TheVariants as C
use Rattle.cpc_native_plans.specs.Calls.{calls_unmeant}
use Rattle.cpc_native_plans.specs.Plans.{Lays}
use Rattle.cpc_native_plans.specs.declared.plan.Plan.TheVariants as L
use Rattle.cpc_native_plans.proofs.Laying.{lays_by, lays_same}
use Rattle.cpc_native_plans.proofs.Doing.{unmeant_asks, unmeant_calls}
use Rattle.cpc_native_plans.proofs.Planning.{value_of_name}
use Rattle.cpc_native_plans.proofs.plan.calls_primitive.Goals as goal

pub returns-in-Some-clause-value : goal.returns-in-Some-clause-value
returns-in-Some-clause-value c = λ names told spells hf hs hes.
    let k = context_of names c.args.around.now in
    let x = names c.args.name in
    let es = exprs_of names c.args.arguments.now in
    let plan = L.Asks (C.Builtin c.in-Some.builtin) c.args.arguments in
    lays_same names k plan (calls_unmeant k x es) hes (unmeant_asks k x es (primitive_of c.in-Some.builtin) (c.in-Some.ensures names spells))

pub returns-in-None-clause-value : goal.returns-in-None-clause-value
returns-in-None-clause-value c = λ names told spells hf hs hes.
    let k = context_of names c.args.around.now in
    let x = names c.args.name in
    let f = expr_of names c.args.function.now in
    let es = exprs_of names c.args.arguments.now in
    let P : Answer M.Act → Type 0 = Lays names k c.calls_value.result in
    lays_by names k c.calls_value.result (M.calls_value k (ENamed x) es) (calls_unmeant k x es) (unmeant_calls k x es (c.in-None.ensures names spells))
    (value_of_name P k (items_of names c.args.around.now.index.now) f x es hf (λ n. c.calls_value.ensures.value names told n hes))
