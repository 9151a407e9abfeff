use Rattle.std.proofs.Common.{◌≡◌, pos, to_z, of_z, to_z-of_z, arith}
use Rattle.std.specs.Int.{w128}
use Rattle.cpc_eval_values.specs.Ordered.{AreAlike}
use Rattle.cpc_eval_values.proofs.Moves.{alike_capped}
use Rattle.cpc_eval_values.proofs.pointers.moved_up.Goals as goal

pub returns-clause-value : goal.returns-clause-value
returns-clause-value c = λ names n e.
    let q : to_z w128 (of_z w128 c.from.result) ≡ pos c.args.cells = grind (arith, to_z-of_z) in
    let alike : AreAlike (pos n) (to_z w128 (of_z w128 c.from.result)) = rw q (alike_capped n c.args.cells e) in
    c.moved.ensures.value names (pos n) alike
