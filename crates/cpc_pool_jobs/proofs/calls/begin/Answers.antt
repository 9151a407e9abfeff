use Rattle.cpc_pool_jobs.proofs.Steps.{begins}
use Rattle.cpc_pool_jobs.proofs.calls.begin.Goals as goal

pub bounded_with-requires-clause-rule : goal.bounded_with-requires-clause-rule
bounded_with-requires-clause-rule g c = begins _ _
