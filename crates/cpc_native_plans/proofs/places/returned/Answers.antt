use Rattle.std.proofs.Common.{Option, Some, option_map, ap, sym, subst, ◌∙◌}
use Rattle.cpc_tree.specs.declared.program.Expr.{Expr}
use Rattle.cpc_tree.specs.Erase.{expr_of, type_of}
use Rattle.cpc_meaning.specs.Eval as E
use Rattle.cpc_eval_values.specs.Shown.{value_of}
use Rattle.cpc_eval_index.specs.Indexed.{items_of}
use Rattle.cpc_eval.specs.Around.{context_of}
use Rattle.cpc_eval.specs.Numbers.{MaybeNumbers}
use Rattle.cpc_native_plans.specs.Parts.{returned}
use Rattle.cpc_eval_values.proofs.Meeting.{meets_then, meets_through}
use Rattle.cpc_native_plans.proofs.Stopping.{meets_by}
use Rattle.cpc_native_plans.proofs.places.returned.Goals as goal

pub returns-in_err-value-in-Some-clause-value : goal.returns-in_err-value-in-Some-clause-value
returns-in_err-value-in-Some-clause-value c = λ names told n.
    let around = context_of names c.args.around.now in
    let t = type_of names c.args.of.now in
    let N : Option Expr → Type 0 = λ o. MaybeNumbers (items_of names c.args.around.now.index.now) (option_map (expr_of names) o) in
    let given = c.in-Some.is ∙ ap Some (sym c.expr.ensures) in
    meets_by _ _ _ (ap (λ (o : Option Expr). returned around t (option_map (expr_of names) o)) (sym given))
    (meets_through (value_of names) c.from_residual.result _ (E.value around (expr_of names c.expr.result.now)) (E.assigned t) c.from_residual.ensures.1 (c.in_err-value-in-Some.ensures.value names told (subst N given n)))

pub returns-in_ok-value-in-Some-clause-value : goal.returns-in_ok-value-in-Some-clause-value
returns-in_ok-value-in-Some-clause-value c = λ names told n.
    let around = context_of names c.args.around.now in
    let t = type_of names c.args.of.now in
    let N : Option Expr → Type 0 = λ o. MaybeNumbers (items_of names c.args.around.now.index.now) (option_map (expr_of names) o) in
    meets_by _ _ _ (ap (λ (o : Option Expr). returned around t (option_map (expr_of names) o)) (sym (c.in-Some.is ∙ ap Some (sym c.expr.ensures))))
    (meets_then (value_of names c.in_ok-value-in-Some.value) (E.value around (expr_of names c.expr.result.now)) (E.assigned t) _ (c.in_ok-value-in-Some.ensures.value names told (subst N (c.in-Some.is ∙ ap Some (sym c.expr.ensures)) n))
    (c.assigned.ensures.value names))
