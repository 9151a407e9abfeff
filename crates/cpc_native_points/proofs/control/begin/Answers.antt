use Rattle.std.proofs.Common.{arith}
use Rattle.cpc_tree.specs.Erase.{stmt_of}
use Rattle.cpc_native_points.specs.Depth.{numbers}
use Rattle.cpc_native_points.proofs.Within.{enter_within}
use Rattle.cpc_native_points.proofs.control.begin.Goals as goal

pub enter-requires : goal.enter-requires
enter-requires c =
    let e = enter_within (stmt_of numbers c.args.body.now) in
    let r = c.requires.room in
    let l = c.clear.ensures.len in
    let k = c.clear.ensures.capacity in
    record { room = omega (arith, e, r, l, k) }
