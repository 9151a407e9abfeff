use Rattle.std.proofs.Common.{List, Option, true, false, refl, sym, ap, subst}
use Rattle.cpc_tree.specs.Erase.{exprs_of, function_of}
use Rattle.cpc_tree.specs.Syntax.{Function}
use Rattle.cpc_tree.specs.Typing.{parameter_types}
use Rattle.cpc_tree.specs.declared.program.Parameter.{Parameter}
use Rattle.cpc_meaning.specs.Answer.{Answer, Gives, ◌>>=◌, needed}
use Rattle.cpc_meaning.specs.Act as M
use Rattle.cpc_eval.specs.Around.{context_of}
use Rattle.cpc_native_plans.specs.Stops.{IsGiven}
use Rattle.cpc_native_plans.specs.Rows.{parameter_list, passed}
use Rattle.cpc_native_changes.specs.Foreseen.{Foresees}
use Rattle.cpc_native_changes.specs.declared.changes.Change.TheVariants as C
use Rattle.cpc_native_plans.proofs.Calling.{function_calls}
use Rattle.cpc_native_changes.proofs.Foreseeing.{after_given, after_not}
use Rattle.cpc_native_changes.proofs.Foretold.{by_same}
use Rattle.cpc_native_changes.proofs.changes.enters.Goals as goal

pub returns-then-is_passed-clause-value : goal.returns-then-is_passed-clause-value
returns-then-is_passed-clause-value c = λ names stood told known hes.
    let k = context_of names c.args.around.now in
    let f = function_of names c.args.function.now in
    let es = exprs_of names c.args.arguments.now in
    let Q : Answer M.Act → Type 0 = Foresees names k stood c.entered.result in
    let P : List Parameter → Type 0 = λ ps. IsGiven true (passed k (parameter_list names ps) es) in
    by_same names k stood c.entered.result _ (M.calls k f es) (sym (function_calls k f es))
    (after_given Q tt (passed k (parameter_types f) es) (λ ws. Gives (M.Enters f ws)) (subst P c.deref.ensures.value (c.if-is_passed.ensures names told hes))
    (λ ws. subst Q (ap (λ (o : Option Function). needed o >>= (λ g. Gives (M.Enters g ws))) (sym known)) (c.entered.ensures.value names stood ws told)))

pub returns-else-is_passed-clause-value : goal.returns-else-is_passed-clause-value
returns-else-is_passed-clause-value c = λ names stood told known hes.
    let k = context_of names c.args.around.now in
    let f = function_of names c.args.function.now in
    let es = exprs_of names c.args.arguments.now in
    let Q : Answer M.Act → Type 0 = Foresees names k stood C.Stays in
    let P : List Parameter → Type 0 = λ ps. IsGiven false (passed k (parameter_list names ps) es) in
    by_same names k stood C.Stays _ (M.calls k f es) (sym (function_calls k f es))
    (after_not Q tt (λ d. refl) (passed k (parameter_types f) es) (λ ws. Gives (M.Enters f ws)) (subst P c.deref.ensures.value (c.if-is_passed.ensures names told hes)))
