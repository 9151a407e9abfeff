use Rattle.std.proofs.Common.{◌≡◌, sym, ap, ◌∙◌, arith, to_z, of_z, to_z-of_z, true, false, Ok}
use Rattle.std.specs.Int.{w128}
use Rattle.std.specs.Prelude.{int_div}
use Rattle.cpc_num.specs.Number.{is_of}
use Rattle.cpc_num.proofs.DivisionLemmas.{divided_fits, divided_overflows}
use Rattle.cpc_num.proofs.arithmetic.quotient.Goals as goal

pub returns-then-is_of-clause-value : goal.returns-then-is_of-clause-value
returns-then-is_of-clause-value c =
    let v : to_z w128 (of_z w128 c.ratio-quotient.result) ≡ int_div c.args.left c.args.right = grind (arith, to_z-of_z) in
    let t : is_of c.args.kind (int_div c.args.left c.args.right) ≡ true = cc in
    ap Ok v ∙ sym (divided_fits c.args.kind c.args.left c.args.right (int_div c.args.left c.args.right) c.if-right-eq0.false t)

pub returns-else-is_of-clause-value : goal.returns-else-is_of-clause-value
returns-else-is_of-clause-value c =
    let q : to_z w128 (of_z w128 c.ratio-quotient.result) ≡ int_div c.args.left c.args.right = grind (arith, to_z-of_z) in
    let t : is_of c.args.kind (int_div c.args.left c.args.right) ≡ false = cc in
    sym (divided_overflows c.args.kind c.args.left c.args.right (int_div c.args.left c.args.right) c.if-right-eq0.false t)
