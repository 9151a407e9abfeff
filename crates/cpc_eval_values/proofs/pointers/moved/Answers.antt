use Rattle.std.proofs.Common.{◌≡◌, to_z, of_z, to_z-of_z, arith}
use Rattle.std.specs.Int.{w128}
use Rattle.cpc_eval_values.specs.Ordered.{AreAlike}
use Rattle.cpc_eval_values.proofs.pointers.moved.Goals as goal

pub returns-in-At-clause-value : goal.returns-in-At-clause-value
returns-in-At-clause-value c = λ names d e.
    let q : to_z w128 (of_z w128 c.args.by) ≡ c.args.by = grind (arith, to_z-of_z) in
    let alike : AreAlike d (to_z w128 (of_z w128 c.args.by)) = rw q e in
    rw c.in-At.is (c.moved_within.ensures.value names d alike)
