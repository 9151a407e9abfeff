use Rattle.std.proofs.Common.{arith}
use Rattle.std.proofs.lemmas.Grind.{common_steps}
use Rattle.cpc_printer.proofs.DepthRows.{args_depth_more, args_depth_end, call_depth}
use Rattle.cpc_printer.proofs.depth.+depths.Goals as goal

pub postfix_depth-returns-in-CallIn : goal.postfix_depth-returns-in-CallIn
postfix_depth-returns-in-CallIn t c = λ names.
    let e = call_depth names c.args.e.now _ _ _ c.in-CallIn.is in
    let k = c.arguments_depth.ensures names in
    let m = c.expression_depth-before-in-CallIn.ensures names in
    grind (arith, common_steps, e, k, m)

pub arguments_depth-loop-e-preserved : goal.arguments_depth-loop-e-preserved
arguments_depth-loop-e-preserved t c = λ names.
    let k = c.loop-e.invariant names in
    let d = c.expression_depth.ensures names in
    let e = args_depth_more names c.args.list.now c.loop-e.e-index c.e-item.result (omega arith) c.e-item.is in
    omega (arith, e, k, d)

pub arguments_depth-returns : goal.arguments_depth-returns
arguments_depth-returns t c = λ names.
    let k = c.loop-e.invariant names in
    let e = args_depth_end names c.args.list.now c.loop-e.e-index (omega arith) in
    omega (arith, e, k)
