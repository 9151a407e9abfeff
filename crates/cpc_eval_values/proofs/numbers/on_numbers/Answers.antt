use Rattle.std.proofs.Common.{◌≡◌, to_z, of_z, to_z-of_z, arith}
use Rattle.std.specs.Int.{w128}
use Rattle.cpc_num.specs.Number as N
use Rattle.cpc_meaning.specs.Eval as E
use Rattle.cpc_eval_values.proofs.Integers.{operated, not_operated}
use Rattle.cpc_eval_values.proofs.numbers.on_numbers.Goals as goal

pub returns-in_err-number-clause-value : goal.returns-in_err-number-clause-value
returns-in_err-number-clause-value c = λ names.
    let a : to_z w128 (of_z w128 c.convert.result) ≡ N.convert c.work_kind-kind.result c.args.left = grind (arith, to_z-of_z) in
    let b : to_z w128 (of_z w128 c.right_operand-wanted.result) ≡ E.right_operand c.args.op c.work_kind-kind.result c.args.right = grind (arith, to_z-of_z) in
    not_operated names c.from_residual.result _ c.args.op c.args.left_kind c.args.right_kind c.args.left c.args.right c.work_kind-kind.result _ _
    c.work_kind-kind.ensures a b c.from_residual.ensures.1 c.in_err-number.ensures.value

pub returns-clause-value : goal.returns-clause-value
returns-clause-value c = λ names.
    let a : to_z w128 (of_z w128 c.convert.result) ≡ N.convert c.work_kind-kind.result c.args.left = grind (arith, to_z-of_z) in
    let b : to_z w128 (of_z w128 c.right_operand-wanted.result) ≡ E.right_operand c.args.op c.work_kind-kind.result c.args.right = grind (arith, to_z-of_z) in
    let z : to_z w128 (of_z w128 c.in_ok-number.number) ≡ c.in_ok-number.number = grind (arith, to_z-of_z) in
    rw z (operated c.args.op c.args.left_kind c.args.right_kind c.args.left c.args.right c.work_kind-kind.result c.result_kind.result _ _ c.in_ok-number.number
    c.work_kind-kind.ensures a b c.in_ok-number.ensures.value c.result_kind.ensures)
