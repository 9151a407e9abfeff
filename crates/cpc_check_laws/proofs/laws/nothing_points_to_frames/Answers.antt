use Rattle.cpc_check_laws.proofs.Kept.Runs as L
use Rattle.cpc_check_laws.proofs.laws.nothing_points_to_frames.Goals as goal

pub returns : goal.returns
returns c = record { law = L.nothing_points_to_frames }
