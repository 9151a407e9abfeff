use Rattle.cpc_check_rules.specs.Noted.{first_of}
use Rattle.cpc_check_parts.specs.Parts.{own}
use Rattle.cpc_check_parts.proofs.Rows.{noted_located, least_noted}
use Rattle.cpc_check_parts.proofs.faults.item_fault.Goals as goal

pub returns : goal.returns
returns c =
    let first = c.in_ok-first.first in
    least_noted _ first.breach (noted_located c.args.program.now (λ p. own c.args.dialect p c.args.item) (first_of first) c.are_distinct.ensures c.requires.within c.in_ok-first.ensures)
