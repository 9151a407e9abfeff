use Rattle.cpc_convert_rows.proofs.Led as L
use Rattle.cpc_convert_rows.proofs.laws.ways_are_of_lines.Goals as goal

pub returns : goal.returns
returns c = record { law = L.node_leads }
