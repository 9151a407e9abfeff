use Rattle.cpc_chains_store_laws.proofs.Taking.{loads_walk}
use Rattle.cpc_chains_store_laws.proofs.laws.frames_are_taken.Goals as goal

pub returns : goal.returns
returns c = record { law = loads_walk }
