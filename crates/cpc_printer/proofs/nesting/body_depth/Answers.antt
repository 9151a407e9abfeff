use Rattle.std.proofs.Common.{arith}
use Rattle.std.proofs.lemmas.Grind.{common_steps}
use Rattle.cpc_printer.proofs.NestRows.{body_nest}
use Rattle.cpc_printer.proofs.nesting.body_depth.Goals as goal

pub returns-in-Block : goal.returns-in-Block
returns-in-Block c = λ names.
    let e = body_nest names c.args.body.now _ _ c.in-Block.is in
    let k = c.block_depth.ensures names in
    grind (arith, common_steps, e, k)
