use Rattle.std.proofs.Common.{◌≡◌, pos, ◌*ℤ◌, to_z, of_z, to_z-of_z, arith}
use Rattle.std.specs.Int.{w128, saturate_signed}
use Rattle.cpc_eval_values.specs.Ordered.{AreAlike}
use Rattle.cpc_eval_values.proofs.Moves.{alike_product}
use Rattle.cpc_eval_values.proofs.pointers.moved_by.Goals as goal

pub returns-clause-value : goal.returns-clause-value
returns-clause-value c = λ names n e.
    let q : to_z w128 (of_z w128 c.saturating_mul.result) ≡ saturate_signed w128 (c.args.count *ℤ pos c.args.cells) = grind (arith, to_z-of_z) in
    let alike : AreAlike (c.args.count *ℤ pos n) (to_z w128 (of_z w128 c.saturating_mul.result)) = rw q (alike_product c.args.count n c.args.cells e) in
    c.moved.ensures.value names (c.args.count *ℤ pos n) alike
