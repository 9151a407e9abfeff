use Rattle.std.proofs.Common.{arith, to_z-of_z, FitsSigned, ◌*ℤ◌}
use Rattle.std.specs.Int.{w128}
use Rattle.cpc_num.proofs.DivisionLemmas.{product_fits}
use Rattle.cpc_num.proofs.arithmetic.product.Goals as goal

pub returns-in_default : goal.returns-in_default
returns-in_default c =
    let f : FitsSigned w128 (c.args.left *ℤ c.args.right) = product_fits c.args.kind c.args.left c.args.right c.in_default.not-ULong c.requires.left_of_kind c.requires.right_of_kind in
    grind (arith, to_z-of_z)
