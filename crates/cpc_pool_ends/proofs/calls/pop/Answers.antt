use Rattle.cpc_pool_ends.proofs.Passes.{learns}
use Rattle.cpc_pool_ends.proofs.Steps.{pops}
use Rattle.cpc_pool_ends.proofs.calls.pop.Goals as goal

pub pop_as-requires-clause-rule : goal.pop_as-requires-clause-rule
pop_as-requires-clause-rule g c = (pops _ _ _ c.requires.role, learns _ _ _ c.requires.role)
