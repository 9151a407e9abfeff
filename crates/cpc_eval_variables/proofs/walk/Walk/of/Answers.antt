use Rattle.std.proofs.Common.{◌∙◌}
use Rattle.cpc_tree.specs.Erase.{stmt_of}
use Rattle.cpc_tree.specs.Points.{locals}
use Rattle.cpc_eval_variables.specs.Scoped.{scope_of}
use Rattle.cpc_eval_variables.proofs.Walking.{told_same, all_types, all_addressed}
use Rattle.cpc_eval_variables.proofs.walk.Walk.of.Goals as goal

pub returns-clause-types : goal.returns-clause-types
returns-clause-types c = λ names.
    all_types names c.args.function.now.parameters.items c.deref-2.result.now (locals (stmt_of names c.args.function.now.body)) _ _ c.deref-2.ensures.value
    (c.in_ok-parameter_types.ensures.types names) (c.in_ok-inside.ensures.types names)

pub returns-clause-addressed : goal.returns-clause-addressed
returns-clause-addressed c = λ names told.
    all_addressed names c.args.function.now.parameters.items c.deref.result.now (scope_of names c.new.result) c.len.result (stmt_of names c.args.function.now.body) _ _
    c.deref.ensures.value (c.new.ensures.scope names) (c.len.ensures ∙ c.args.function.now.parameters.ok.0) c.new-2.ensures.items
    (c.in_ok-inside.ensures.addressed names (told_same names _ _ (c.new.ensures.parameters ∙ c.deref.ensures.value) told))
