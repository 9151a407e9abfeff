use Rattle.cpc_chains_laws.proofs.Return.Kept as L
use Rattle.cpc_chains_laws.proofs.Return.Returns as R
use Rattle.cpc_chains_laws.proofs.laws.boxes_are_kept.Goals as goal

-- what is done where a function is left speaks of settings, of which no clause can speak; it is checked with this one
pub returns : goal.returns
returns c =
    let ends = R.ends_there in
    let returned = R.returns_there in
    record { law = L.boxes_are_kept }
