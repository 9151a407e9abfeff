use Rattle.cpc_pool_jobs.proofs.Steps.{sends}
use Rattle.cpc_pool_jobs.proofs.calls.send.Goals as goal

pub send_as-requires-clause-rule : goal.send_as-requires-clause-rule
send_as-requires-clause-rule g c = (sends _ _ _ _ _ _ c.requires.role.0 c.requires.role.1 c.requires.number c.requires.meets, λ items views h at. tt)
