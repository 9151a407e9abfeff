use Rattle.cpc_pool_ends.proofs.Steps.{pushes}
use Rattle.cpc_pool_ends.proofs.calls.push.Goals as goal

pub push_as-requires-clause-rule : goal.push_as-requires-clause-rule
push_as-requires-clause-rule g c = (pushes _ _ _ _ _ c.requires.role.0 c.requires.role.1 c.requires.ends, λ items views h at. tt)
