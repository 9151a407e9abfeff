use Rattle.std.proofs.Common.{[], map, ap, ◌∙◌}
use Rattle.cpc_tree.specs.Erase.{parameter_of}
use Rattle.cpc_tree.specs.Registers.{parameter_scope}
use Rattle.cpc_eval_variables.specs.Scoped.{scope_over}
use Rattle.cpc_eval_variables.proofs.Slots.{scope_more}
use Rattle.cpc_eval_variables.proofs.scope.Scope.declare.Goals as goal

pub returns-clause-scope : goal.returns-clause-scope
returns-clause-scope c = λ names.
    let outer = parameter_scope 0 (map (parameter_of names) c.args.self.now.parameters.now) [] in
    ap (scope_over names outer) c.in_ok-push.ensures.items ∙ scope_more names c.args.self.now.locals.items c.args.local outer
