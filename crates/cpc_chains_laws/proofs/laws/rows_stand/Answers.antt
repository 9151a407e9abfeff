use Rattle.cpc_chains_laws.proofs.Piece.Rows as L
use Rattle.cpc_chains_laws.proofs.laws.rows_stand.Goals as goal

pub returns : goal.returns
returns c = record { law = L.rows_stand }
