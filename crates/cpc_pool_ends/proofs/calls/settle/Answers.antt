use Rattle.cpc_pool_ends.proofs.Passes.{learns}
use Rattle.cpc_pool_ends.proofs.calls.settle.Goals as goal

pub learn_as-requires-clause-rule : goal.learn_as-requires-clause-rule
learn_as-requires-clause-rule g c = learns _ _ _ c.requires.role
