use Rattle.cpc_lifted_laws.proofs.Related.Owned as L
use Rattle.cpc_chains_laws.proofs.Related.Pass as N
use Rattle.cpc_chains_laws.proofs.laws.items_own.Goals as goal

-- the join of the rows speaks of settings, of which no clause can speak yet; it is checked with this one
pub returns : goal.returns
returns c = let joined = N.follows_lifted in record { law = L.count_owned }
