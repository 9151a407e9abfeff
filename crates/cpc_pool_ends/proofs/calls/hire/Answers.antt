use Rattle.cpc_pool_ends.proofs.Passes.{forks}
use Rattle.cpc_pool_ends.proofs.calls.hire.Goals as goal

pub another-requires-clause-rule : goal.another-requires-clause-rule
another-requires-clause-rule g c = forks _ _ _ c.requires.role
