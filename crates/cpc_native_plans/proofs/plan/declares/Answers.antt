use Rattle.std.proofs.Common.{ap, option_map, sym, ◌∙◌, Some}
use Rattle.cpc_tree.specs.Erase.{expr_of}
use Rattle.cpc_eval_values.specs.Shown.{value_of}
use Rattle.cpc_eval_index.specs.Indexed.{items_of}
use Rattle.cpc_eval.specs.Around.{context_of}
use Rattle.cpc_eval.specs.Spots.{spot_of}
use Rattle.cpc_native_plans.proofs.Planning.{declared_stands, declares_not, declares_nowhere, numbers_there}
use Rattle.cpc_native_plans.proofs.plan.declares.Goals as goal

pub returns-in_err-given-in-Some-clause-value : goal.returns-in_err-given-in-Some-clause-value
returns-in_err-given-in-Some-clause-value c = λ names rt t told h.
    let k = context_of names c.args.around.now in
    let o = option_map (expr_of names) c.args.start.now in
    let i = ap (option_map (expr_of names)) (c.in-Some.is ∙ ap Some (sym c.expr.ensures)) in
    declares_not k names (names c.args.word.name) rt t o _ c.from_residual.result _ i c.from_residual.ensures.1
    (c.in_err-given-in-Some.ensures.value names told (numbers_there (items_of names c.args.around.now.index.now) o _ i h))

pub returns-in_err-spot-in-Some-clause-value : goal.returns-in_err-spot-in-Some-clause-value
returns-in_err-spot-in-Some-clause-value c = λ names rt t told h.
    let k = context_of names c.args.around.now in
    let o = option_map (expr_of names) c.args.start.now in
    let i = ap (option_map (expr_of names)) (c.in-Some.is ∙ ap Some (sym c.expr.ensures)) in
    declares_nowhere k names (names c.args.word.name) rt t o _ (value_of names c.in_ok-given-in-Some.given) c.from_residual-in_err-spot-in-Some.result _ i c.from_residual-in_err-spot-in-Some.ensures.1
    (c.in_ok-given-in-Some.ensures.value names told (numbers_there (items_of names c.args.around.now.index.now) o _ i h)) (c.in_err-spot-in-Some.ensures.value names told)

pub returns-in_ok-spot-in-Some-clause-value : goal.returns-in_ok-spot-in-Some-clause-value
returns-in_ok-spot-in-Some-clause-value c = λ names rt t told h.
    let k = context_of names c.args.around.now in
    let i = ap (option_map (expr_of names)) (c.in-Some.is ∙ ap Some (sym c.expr.ensures)) in (
      tt,
      declared_stands k (names c.args.word.name) rt t (option_map (expr_of names) c.args.start.now) _ (value_of names c.in_ok-given-in-Some.given)
          (spot_of c.in_ok-spot-in-Some.spot, value_of names c.in_ok-spot-in-Some.written) i
          (c.in_ok-given-in-Some.ensures.value names told (numbers_there (items_of names c.args.around.now.index.now) (option_map (expr_of names) c.args.start.now) _ i h))
          (c.in_ok-spot-in-Some.ensures.value names told),
    )
