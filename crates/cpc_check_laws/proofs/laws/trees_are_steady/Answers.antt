use Rattle.cpc_check_laws.proofs.Kept.Trees as L
use Rattle.cpc_check_laws.proofs.laws.trees_are_steady.Goals as goal

pub returns : goal.returns
returns c = record { law = L.trees_are_steady }
