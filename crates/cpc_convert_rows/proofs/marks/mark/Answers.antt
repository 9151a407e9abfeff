use Rattle.std.proofs.Common.{arith}
use Rattle.cpc_convert_rows.proofs.Marking.{marked_more, marked_past, mark_each, mark_past}
use Rattle.cpc_convert_rows.proofs.marks.mark.Goals as goal

pub returns-then-number-len-clause-marks : goal.returns-then-number-len-clause-marks
returns-then-number-len-clause-marks c = λ ns are. marked_more _ _ ns (omega arith) are

pub returns-else-number-len-clause-marks : goal.returns-else-number-len-clause-marks
returns-else-number-len-clause-marks c = λ ns are. marked_past _ _ ns (omega arith) are

pub returns-then-number-len-clause-each : goal.returns-then-number-len-clause-each
returns-then-number-len-clause-each c = λ k below. mark_each _ _ k (omega arith) below

pub returns-else-number-len-clause-each : goal.returns-else-number-len-clause-each
returns-else-number-len-clause-each c = λ k below. mark_past _ _ k (omega arith) below
