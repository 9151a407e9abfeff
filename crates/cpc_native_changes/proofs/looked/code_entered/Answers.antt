use Rattle.std.proofs.Common.{List, true, option_map, subst}
use Rattle.cpc_base.specs.Bytes.{Text}
use Rattle.cpc_tree.specs.Erase.{exprs_of}
use Rattle.cpc_tree.specs.Syntax.{Ty}
use Rattle.cpc_tree.specs.Typing as T
use Rattle.cpc_store.specs.Store.{Value}
use Rattle.cpc_meaning.specs.Answer.{Answer, Gives, ◌>>=◌}
use Rattle.cpc_eval_values.specs.Shown.{value_of}
use Rattle.cpc_eval.specs.Around.{context_of}
use Rattle.cpc_eval.specs.Shapes.{shape_of}
use Rattle.cpc_native_plans.specs.Stops.{IsGiven}
use Rattle.cpc_native_plans.specs.Rows.{passed}
use Rattle.cpc_native_plans.specs.Calls.{code_called, IsNamed}
use Rattle.cpc_native_changes.proofs.Foreseeing.{after_given}
use Rattle.cpc_native_changes.proofs.Looking.{named_ok}
use Rattle.cpc_native_changes.proofs.looked.code_entered.Goals as goal

pub returns-then-is_passed : goal.returns-then-is_passed
returns-then-is_passed c = λ names told n.
    let k = context_of names c.args.around.now in
    let t = shape_of names c.args.shape in
    let es = exprs_of names c.args.arguments.now in
    let a = code_called k.program t (value_of names c.args.called) in
    let P : Answer (Text × List Value) → Type 0 = IsNamed (option_map names c.ok.result) in
    let Q : List Ty → Type 0 = λ ts. IsGiven true (passed k ts es) in
    after_given P tt (passed k (T.code_parameters t) es) (λ ws. a >>= (λ x. Gives (x, ws))) (subst Q (c.parameters_of.ensures names) (c.if-is_passed.ensures names told n))
    (λ ws. named_ok names c.callee.result c.ok.result a ws c.ok.ensures.value (c.callee.ensures names told.apart))
