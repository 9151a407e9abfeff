use Rattle.std.proofs.Common.{List, Ok, Err, refl, subst}
use Rattle.std.specs.Global.{Vec}
use Rattle.cpc_base.specs.Bytes.{Text}
use Rattle.cpc_base.specs.declared.names.Name.{Name}
use Rattle.cpc_tree.specs.Erase.{exprs_of}
use Rattle.cpc_tree.specs.Syntax.{Ty}
use Rattle.cpc_tree.specs.Typing as T
use Rattle.cpc_store.specs.Store.{Value}
use Rattle.cpc_store.specs.declared.values.Value as V
use Rattle.cpc_meaning.specs.Answer.{Gives, ◌>>=◌}
use Rattle.cpc_eval_values.specs.Shown.{value_of, values_of}
use Rattle.cpc_eval.specs.Around.{context_of}
use Rattle.cpc_eval.specs.Shapes.{shape_of}
use Rattle.cpc_native_plans.specs.Stops.{MeetsOr}
use Rattle.cpc_native_plans.specs.Rows.{passed}
use Rattle.cpc_native_plans.specs.Calls.{code_called}
use Rattle.cpc_native_plans.proofs.Stopping.{or_then, or_through, or_stopped}
use Rattle.cpc_native_plans.proofs.calls.value_called.Goals as goal

pub returns-in_err-row-clause-value : goal.returns-in_err-row-clause-value
returns-in_err-row-clause-value c = λ names told m.
    let around = context_of names c.args.around.now in
    let es = exprs_of names c.args.arguments.now in
    let t = shape_of names c.args.shape in
    let P : List Ty → Type 0 = λ ts. MeetsOr {A = List _} (Err c.in_err-row.field-0.0) (passed around ts es) in
    let view : Name × Vec V.Value → Text × List Value = λ q. (names q.0, values_of names q.1.items) in
    or_through view c.from_residual.result _ (passed around (T.code_parameters t) es) _ c.from_residual.ensures.1 (subst P (c.parameters_of.ensures names) (c.in_err-row.ensures.value names told m))

pub returns-in_err-name-clause-value : goal.returns-in_err-name-clause-value
returns-in_err-name-clause-value c = λ names told m.
    let around = context_of names c.args.around.now in
    let es = exprs_of names c.args.arguments.now in
    let t = shape_of names c.args.shape in
    let v = value_of names c.args.called in
    let ws = values_of names c.in_ok-row.row.items in
    let P : List Ty → Type 0 = λ ts. MeetsOr (Ok ws) (passed around ts es) in
    let view : Name × Vec V.Value → Text × List Value = λ q. (names q.0, values_of names q.1.items) in
    or_then ws (passed around (T.code_parameters t) es) _ _ (subst P (c.parameters_of.ensures names) (c.in_ok-row.ensures.value names told m))
    (or_through view c.from_residual-in_err-name.result _ (code_called around.program t v) _ c.from_residual-in_err-name.ensures.1
    (or_stopped names c.callee.result (Err c.in_err-name.field-0.0) _ c.in_err-name.ensures (c.callee.ensures names told.apart)))

pub returns-clause-value : goal.returns-clause-value
returns-clause-value c = λ names told m.
    let around = context_of names c.args.around.now in
    let es = exprs_of names c.args.arguments.now in
    let t = shape_of names c.args.shape in
    let v = value_of names c.args.called in
    let ws = values_of names c.in_ok-row.row.items in
    let x = c.in_ok-name.name in
    let P : List Ty → Type 0 = λ ts. MeetsOr (Ok ws) (passed around ts es) in
    or_then ws (passed around (T.code_parameters t) es) (λ ws. code_called around.program t v >>= (λ x. Gives (x, ws))) (Ok (names x, ws)) (subst P (c.parameters_of.ensures names) (c.in_ok-row.ensures.value names told m))
    (or_then (names x) (code_called around.program t v) (λ x. Gives (x, ws)) (Ok (names x, ws)) (or_stopped names c.callee.result (Ok x) _ c.in_ok-name.ensures (c.callee.ensures names told.apart)) refl)
