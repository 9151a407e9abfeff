use Rattle.std.proofs.Common.{◌∙◌}
use Rattle.cpc_types.proofs.Scopes.{fields_scope}
use Rattle.cpc_types.proofs.scope.Scope.fields.Goals as goal

pub returns-in-Some : goal.returns-in-Some
returns-in-Some c = λ names apart. c.fields_of.ensures names ∙ fields_scope names apart c.args.self.now c.args.tag _ _ c.deref.ensures.value c.in-Some.ensures

pub returns-in-None : goal.returns-in-None
returns-in-None c = λ names apart. fields_scope names apart c.args.self.now c.args.tag _ _ c.deref.ensures.value c.in-None.ensures
