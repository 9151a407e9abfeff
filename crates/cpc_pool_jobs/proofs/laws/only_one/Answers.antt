use Rattle.cpc_pool_jobs.proofs.Only.{only}
use Rattle.cpc_pool_jobs.proofs.laws.only_one.Goals as goal

pub returns : goal.returns
returns c = only
