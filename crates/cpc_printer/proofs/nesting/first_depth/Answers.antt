use Rattle.std.proofs.Common.{arith}
use Rattle.cpc_printer.proofs.NestRows.{first_more, first_end}
use Rattle.cpc_printer.proofs.nesting.first_depth.Goals as goal

pub loop-s-preserved : goal.loop-s-preserved
loop-s-preserved c = λ names.
    let k = c.loop-s.invariant names in
    let d = c.simple_depth.ensures names in
    let e = first_more names c.args.first.now c.loop-s.s-index c.s-item.result (omega arith) c.s-item.is in
    omega (arith, e, k, d)

pub returns : goal.returns
returns c = λ names.
    let k = c.loop-s.invariant names in
    let e = first_end names c.args.first.now c.loop-s.s-index (omega arith) in
    omega (arith, e, k)
