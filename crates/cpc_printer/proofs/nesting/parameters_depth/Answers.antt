use Rattle.std.proofs.Common.{arith}
use Rattle.cpc_printer.proofs.NestRows.{params_more, params_end}
use Rattle.cpc_printer.proofs.nesting.parameters_depth.Goals as goal

pub loop-parameter-preserved : goal.loop-parameter-preserved
loop-parameter-preserved c = λ names.
    let k = c.loop-parameter.invariant names in
    let d = c.parameter_depth.ensures names in
    let e = params_more names c.args.list.now c.loop-parameter.parameter-index c.parameter-item.result (omega arith) c.parameter-item.is in
    omega (arith, e, k, d)

pub returns : goal.returns
returns c = λ names.
    let k = c.loop-parameter.invariant names in
    let e = params_end names c.args.list.now c.loop-parameter.parameter-index (omega arith) in
    omega (arith, e, k)
