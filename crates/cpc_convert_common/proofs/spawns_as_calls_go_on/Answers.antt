use Rattle.cpc_convert_common.proofs.Respawn.{afters}
use Rattle.cpc_convert_common.proofs.spawns_as_calls_go_on.Goals as goal

pub returns : goal.returns
returns c = afters
