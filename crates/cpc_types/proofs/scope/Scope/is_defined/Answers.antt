use Rattle.std.proofs.Common.{◌∙◌}
use Rattle.cpc_types.proofs.Defined.{defined_scope}
use Rattle.cpc_types.proofs.scope.Scope.is_defined.Goals as goal

pub returns : goal.returns
returns c = λ names apart. c.is_defined.ensures ∙ defined_scope names apart c.args.self.now c.args.name
