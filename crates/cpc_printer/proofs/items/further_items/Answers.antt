use Rattle.std.proofs.Common.{arith}
use Rattle.std.proofs.lemmas.Grind.{common_steps}
use Rattle.cpc_printer.proofs.ItemRows.{program_end}
use Rattle.cpc_printer.proofs.items.further_items.Goals as goal

pub returns-clause-row : goal.returns-clause-row
returns-clause-row c = λ names.
    let e = program_end c.args.out.now.is_tight names c.args.rest.now c.loop-next.next-index (omega arith) in
    let k = c.loop-next.invariant.row names in
    grind (arith, common_steps, e, k)
