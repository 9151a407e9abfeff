use Rattle.cpc_pool_jobs.proofs.Steps.{stops}
use Rattle.cpc_pool_jobs.proofs.calls.send_stop.Goals as goal

pub send_as-requires-clause-rule : goal.send_as-requires-clause-rule
send_as-requires-clause-rule g c = (stops _ _ _ _ _ c.requires.role, λ items views h at. tt)
