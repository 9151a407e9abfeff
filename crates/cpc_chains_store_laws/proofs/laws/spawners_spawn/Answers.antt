use Rattle.cpc_chains_store_laws.proofs.Spawner.{spawner_walk}
use Rattle.cpc_chains_store_laws.proofs.laws.spawners_spawn.Goals as goal

pub returns : goal.returns
returns c = record { law = spawner_walk }
