use Rattle.cpc_chains_laws.proofs.Entry.Entries as E
use Rattle.cpc_chains_laws.proofs.Entry.Fine as F
use Rattle.cpc_chains_laws.proofs.Entry.Leaders as L
use Rattle.cpc_chains_laws.proofs.laws.leaders_have_rows.Goals as goal

-- the facts of the beginning of pieces speak of settings, of which no clause can speak yet; they are checked with this one
pub returns : goal.returns
returns c = let facts = E.entry_facts in let taken = F.fine_taken in record { law = L.leaders_have_rows }
