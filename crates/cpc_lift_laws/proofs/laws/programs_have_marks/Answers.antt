use Rattle.cpc_lift_laws.proofs.Boxes as L
use Rattle.cpc_lift_laws.proofs.laws.programs_have_marks.Goals as goal

pub returns : goal.returns
returns c = record { law = L.programs_have_marks }
