use Rattle.std.proofs.Common.{arith}
use Rattle.std.proofs.lemmas.Grind.{common_steps}
use Rattle.cpc_printer.proofs.DepthRows.{types_more, types_end, code_depth}
use Rattle.cpc_printer.proofs.depth.+nesting.Goals as goal

pub declarator_depth-returns-in-Code : goal.declarator_depth-returns-in-Code
declarator_depth-returns-in-Code t c = λ names.
    let e = code_depth names c.args.of.now _ _ c.in-Code.is in
    let k = c.types_depth.ensures names in
    let m = c.star_count-in-Code.ensures names in
    grind (arith, common_steps, e, k, m)

pub types_depth-loop-of-preserved : goal.types_depth-loop-of-preserved
types_depth-loop-of-preserved t c = λ names.
    let k = c.loop-of.invariant names in
    let d = c.parameter_depth.ensures names in
    let e = types_more names c.args.list.now c.loop-of.of-index c.of-item.result (omega arith) c.of-item.is in
    omega (arith, e, k, d)

pub types_depth-returns : goal.types_depth-returns
types_depth-returns t c = λ names.
    let k = c.loop-of.invariant names in
    let e = types_end names c.args.list.now c.loop-of.of-index (omega arith) in
    omega (arith, e, k)
