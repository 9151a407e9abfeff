use Rattle.cpc_pool_jobs.proofs.Passes.{sees}
use Rattle.cpc_pool_jobs.proofs.Takes.{takes}
use Rattle.cpc_pool_jobs.proofs.calls.take.Goals as goal

pub recv_as-requires-clause-rule : goal.recv_as-requires-clause-rule
recv_as-requires-clause-rule g c = (takes _ _ _ _ c.requires.role, sees _ _ _ _ c.requires.role)
