use Rattle.cpc_pool_ends.proofs.Steps.{begins}
use Rattle.cpc_pool_ends.proofs.calls.begin.Goals as goal

pub ruled-requires-clause-rule : goal.ruled-requires-clause-rule
ruled-requires-clause-rule g c = begins _
