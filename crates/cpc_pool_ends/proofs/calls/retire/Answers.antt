use Rattle.cpc_pool_ends.proofs.Passes.{merges}
use Rattle.cpc_pool_ends.proofs.calls.retire.Goals as goal

pub absorb-requires-clause-rule : goal.absorb-requires-clause-rule
absorb-requires-clause-rule g c = merges _ _ _ _ _ c.requires.role.0 c.requires.role.1
