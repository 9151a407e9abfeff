use Rattle.cpc_check_rules.specs.Noted.{first_of}
use Rattle.cpc_check_parts.specs.Parts.{whole}
use Rattle.cpc_check_parts.proofs.Rows.{noted_located, least_noted}
use Rattle.cpc_check_parts.proofs.faults.program_fault.Goals as goal

pub returns : goal.returns
returns c =
    let first = c.in_ok-first.first in
    least_noted _ first.breach (noted_located c.args.program.now (whole c.args.dialect) (first_of first) c.are_distinct.ensures c.requires.within c.in_ok-first.ensures)
