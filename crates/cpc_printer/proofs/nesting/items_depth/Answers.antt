use Rattle.std.proofs.Common.{arith}
use Rattle.cpc_printer.proofs.NestRows.{program_more, program_end}
use Rattle.cpc_printer.proofs.nesting.items_depth.Goals as goal

pub loop-item-preserved : goal.loop-item-preserved
loop-item-preserved c = λ names.
    let k = c.loop-item.invariant names in
    let d = c.item_depth.ensures names in
    let e = program_more names c.args.list.now c.loop-item.item-index c.item-item.result (omega arith) c.item-item.is in
    omega (arith, e, k, d)

pub returns : goal.returns
returns c = λ names.
    let k = c.loop-item.invariant names in
    let e = program_end names c.args.list.now c.loop-item.item-index (omega arith) in
    omega (arith, e, k)
