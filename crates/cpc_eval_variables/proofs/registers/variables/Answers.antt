use Rattle.std.proofs.Common.{ap, ◌∙◌}
use Rattle.std.proofs.lemmas.Result.{IfOk-weaker}
use Rattle.cpc_tree.specs.Erase.{function_of}
use Rattle.cpc_tree.specs.Registers as R
use Rattle.cpc_eval_variables.specs.Kept.{kept_types, types_kept}
use Rattle.cpc_eval_variables.specs.Typed.{types_of}
use Rattle.cpc_eval_variables.proofs.Keeping.{kept_by_types, types_again}
use Rattle.cpc_eval_variables.proofs.registers.variables.Goals as goal

pub returns-clause-kept : goal.returns-clause-kept
returns-clause-kept c = IfOk-weaker c.kept.result _ _ (λ kept h names told.
    let f = function_of names c.args.function.now in
    let walk = c.in_ok-walk.walk in
    h names
    ∙ (ap (λ l. kept_types l 0 (types_of names c.deref.result.now)) (c.deref-2.ensures.value ∙ c.in_ok-walk.ensures.addressed names told)
    ∙ (ap (λ l. kept_types (R.addressed f) 0 (types_of names l)) c.deref.ensures.value
    ∙ (ap (kept_types (R.addressed f) 0) (c.in_ok-walk.ensures.types names) ∙ kept_by_types f 0 (R.variables f))))) c.kept.ensures

pub returns-clause-types : goal.returns-clause-types
returns-clause-types c = IfOk-weaker c.kept.result _ _ (λ kept h names.
    ap types_kept (h names)
    ∙ types_again c.deref-2.result.now 0 (types_of names c.deref.result.now)
    ∙ ap (types_of names) c.deref.ensures.value
    ∙ c.in_ok-walk.ensures.types names) c.kept.ensures
