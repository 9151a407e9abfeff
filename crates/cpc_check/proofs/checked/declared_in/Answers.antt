use Rattle.std.proofs.Common.{subst}
use Rattle.cpc_types_structs.specs.Declares.{AreAllDeclared}
use Rattle.cpc_check.proofs.checked.declared_in.Goals as goal

pub returns : goal.returns
returns c = subst (λ xs. AreAllDeclared xs c.into_declared.result) c.in_ok-scope.ensures.all c.into_declared.ensures
