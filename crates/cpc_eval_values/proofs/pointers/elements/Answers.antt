use Rattle.std.proofs.Common.{pos, ◌<ℤ◌, FitsSigned, ap, ◌∙◌, arith}
use Rattle.std.proofs.lemmas.Int.{ints, quot_is, quot_fits}
use Rattle.std.specs.Int.{w128}
use Rattle.std.specs.Prelude.{int_div}
use Rattle.cpc_eval_values.proofs.Sized.{quotient_capped}
use Rattle.cpc_eval_values.proofs.pointers.elements.Goals as goal

pub returns-else-cells-eq0-clause-value : goal.returns-else-cells-eq0-clause-value
returns-else-cells-eq0-clause-value c = λ n e.
    let fits : FitsSigned w128 c.from.result = record { sfits = c.from.type_inv } in
    let positive : pos 0 <ℤ c.from.result = grind (arith, ints) in
    quot_is w128 c.args.apart c.from.result c.ranges.apart fits (quot_fits w128 c.args.apart c.from.result c.ranges.apart positive)
    ∙ ap (int_div c.args.apart) c.from.ensures ∙ quotient_capped c.args.apart n c.args.cells e c.requires.low c.requires.high
