use Rattle.cpc_chains_store_laws.proofs.Leaders.{leader_walk}
use Rattle.cpc_chains_store_laws.proofs.laws.leaders_are_entered.Goals as goal

pub returns : goal.returns
returns c = record { law = leader_walk }
