use Rattle.cpc_chains_laws.proofs.Native.Globals as L
use Rattle.cpc_chains_laws.proofs.Native.Instances as I
use Rattle.cpc_chains_laws.proofs.laws.globals_stay.Goals as goal

-- the facts of the rows speak of settings, of which no clause can speak yet; they are checked with this one
pub returns : goal.returns
returns c = let facts = I.row_facts in record { law = L.globals_stay }
