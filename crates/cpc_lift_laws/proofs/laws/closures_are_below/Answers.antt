use Rattle.cpc_lift_laws.proofs.Closures as L
use Rattle.cpc_lift_laws.proofs.Below as M
use Rattle.cpc_lift_laws.proofs.Boxes as N
use Rattle.cpc_lift_laws.proofs.laws.closures_are_below.Goals as goal

pub returns : goal.returns
returns g c = record { closures = L.closures_are_below _ _; used = M.used_are_below; boxes = N.boxes_are_below }
