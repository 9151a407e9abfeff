use Rattle.std.proofs.Common.{arith}
use Rattle.cpc_printer.proofs.NestRows.{fields_more, fields_end}
use Rattle.cpc_printer.proofs.nesting.fields_depth.Goals as goal

pub loop-field-preserved : goal.loop-field-preserved
loop-field-preserved c = λ names.
    let k = c.loop-field.invariant names in
    let d = c.declarator_depth.ensures names in
    let e = fields_more names c.args.list.now c.loop-field.field-index c.field-item.result (omega arith) c.field-item.is in
    omega (arith, e, k, d)

pub returns : goal.returns
returns c = λ names.
    let k = c.loop-field.invariant names in
    let e = fields_end names c.args.list.now c.loop-field.field-index (omega arith) in
    omega (arith, e, k)
