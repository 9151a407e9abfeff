use Rattle.cpc_tree.specs.Erase.{expr_of}
use Rattle.cpc_store.specs.Store.{Value}
use Rattle.cpc_meaning.specs.Answer.{Answer}
use Rattle.cpc_meaning.specs.Eval as E
use Rattle.cpc_eval_values.specs.Shown.{value_of}
use Rattle.cpc_eval.specs.Around.{context_of}
use Rattle.cpc_native_plans.specs.Rows.{row_types, by_nth}
use Rattle.cpc_native_plans.specs.Stops.{IsGiven}
use Rattle.cpc_native_changes.proofs.Foreseeing.{after_value, is_given}
use Rattle.cpc_native_changes.proofs.looked.is_passed_at.Goals as goal

pub returns-in-Ok : goal.returns-in-Ok
returns-in-Ok c = λ names told n.
    let k = context_of names c.args.around.now in
    let ts = row_types names c.args.types in
    let P : Answer Value → Type 0 = IsGiven {A = Value} c.is_ok.result in
    after_value P tt (value_of names c.in-Ok.value) (E.value k (expr_of names c.args.argument.now)) (by_nth E.assigned ts c.args.i) (c.in-Ok.ensures.value names told n)
    (is_given (value_of names) c.is_ok.result c.argument_at.result _ c.is_ok.ensures.value (c.argument_at.ensures.value names))
