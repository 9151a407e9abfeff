use Rattle.cpc_check_parts.proofs.Cutting.{out_of_program, into_program}
use Rattle.cpc_check_parts.proofs.cut.parts_are_breaks.Goals as goal

pub returns : goal.returns
returns c = λ dialect p b. (out_of_program b dialect p, into_program b dialect p)
