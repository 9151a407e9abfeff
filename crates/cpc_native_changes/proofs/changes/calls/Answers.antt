use Rattle.cpc_tree.specs.Erase.{exprs_of}
use Rattle.cpc_eval_values.specs.Shown.{value_of}
use Rattle.cpc_eval.specs.Around.{context_of}
use Rattle.cpc_eval.specs.Shapes.{shape_of}
use Rattle.cpc_native_plans.specs.Calls.{called_with}
use Rattle.cpc_native_changes.proofs.Foretold.{named_then, unnamed}
use Rattle.cpc_native_changes.proofs.changes.calls.Goals as goal

pub returns-in-Some-clause-value : goal.returns-in-Some-clause-value
returns-in-Some-clause-value c = λ names stood told n.
    let k = context_of names c.args.around.now in
    let a = called_with k (shape_of names c.args.shape) (value_of names c.args.called) (exprs_of names c.args.arguments.now) in
    named_then names k stood c.entered.result (names c.in-Some.name) a (c.in-Some.ensures names told n) (λ ws. c.entered.ensures.value names stood ws told)

pub returns-in-None-clause-value : goal.returns-in-None-clause-value
returns-in-None-clause-value c = λ names stood told n.
    let k = context_of names c.args.around.now in
    unnamed names k stood (called_with k (shape_of names c.args.shape) (value_of names c.args.called) (exprs_of names c.args.arguments.now)) (c.in-None.ensures names told n)
