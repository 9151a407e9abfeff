use Rattle.cpc_pool_jobs.proofs.Passes.{learns}
use Rattle.cpc_pool_jobs.proofs.calls.settle.Goals as goal

pub learn_as-requires-clause-rule : goal.learn_as-requires-clause-rule
learn_as-requires-clause-rule g c = learns _ _ _ _ c.requires.role
