use Rattle.std.proofs.Common.{List, Option, Ok, Err, sym, ap, subst}
use Rattle.cpc_tree.specs.Erase.{exprs_of, function_of}
use Rattle.cpc_tree.specs.Syntax.{Function}
use Rattle.cpc_tree.specs.Typing.{parameter_types}
use Rattle.cpc_tree.specs.declared.program.Parameter.{Parameter}
use Rattle.cpc_store.specs.Store.{Value}
use Rattle.cpc_meaning.specs.Answer.{Gives, ◌>>=◌, needed}
use Rattle.cpc_meaning.specs.Act as M
use Rattle.cpc_eval_values.specs.Shown.{values_of}
use Rattle.cpc_eval.specs.Around.{context_of}
use Rattle.cpc_native_plans.specs.Stops.{MeetsOr}
use Rattle.cpc_native_plans.specs.Rows.{parameter_list, passed}
use Rattle.cpc_native_acts.specs.declared.deeds.Deed.TheVariants as D
use Rattle.cpc_native_acts.proofs.Planned.{plans_by, plans_then, plans_through}
use Rattle.cpc_native_plans.proofs.Calling.{function_calls}
use Rattle.cpc_native_acts.proofs.deeds.enters.Goals as goal

pub returns-in_err-row-clause-value : goal.returns-in_err-row-clause-value
returns-in_err-row-clause-value c = λ names told known hes.
    let k = context_of names c.args.around.now in
    let f = function_of names c.args.function.now in
    let es = exprs_of names c.args.arguments.now in
    let r = c.from_residual.result in
    let P : List Parameter → Type 0 = λ ps. MeetsOr {A = List Value} (Err c.in_err-row.field-0.0) (passed k (parameter_list names ps) es) in
    plans_by names k r (passed k (parameter_types f) es >>= (λ ws. Gives (M.Enters f ws))) (M.calls k f es) (sym (function_calls k f es))
    (plans_through names k r _ (passed k (parameter_types f) es) (λ ws. Gives (M.Enters f ws)) c.from_residual.ensures.1 (subst P c.deref.ensures.value (c.in_err-row.ensures.value names told hes)))

pub returns-clause-value : goal.returns-clause-value
returns-clause-value c = λ names told known hes.
    let k = context_of names c.args.around.now in
    let f = function_of names c.args.function.now in
    let es = exprs_of names c.args.arguments.now in
    let ws = values_of names c.in_ok-row.row.items in
    let d = D.Enters c.args.name c.in_ok-row.row in
    let P : List Parameter → Type 0 = λ ps. MeetsOr (Ok ws) (passed k (parameter_list names ps) es) in
    plans_by names k (Ok d) (passed k (parameter_types f) es >>= (λ ws. Gives (M.Enters f ws))) (M.calls k f es) (sym (function_calls k f es))
    (plans_then names k ws (passed k (parameter_types f) es) (λ ws. Gives (M.Enters f ws)) d (subst P c.deref.ensures.value (c.in_ok-row.ensures.value names told hes))
    (ap (λ (o : Option Function). needed o >>= (λ g. Gives (M.Enters g ws))) (sym known)))
