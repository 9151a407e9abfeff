use Rattle.cpc_lift_laws.proofs.Search as L
use Rattle.cpc_lift_laws.proofs.laws.search_finds.Goals as goal

pub returns : goal.returns
returns c = record { law = L.search_finds }
