use Rattle.std.proofs.Common.{arith}
use Rattle.std.proofs.lemmas.Grind.{common_steps}
use Rattle.cpc_native_points.proofs.Deepness.{depth_block, depth_if, depth_for, depth_end, depth_more}
use Rattle.cpc_native_points.proofs.depths.+measured.Goals as goal

pub depth_of-returns-in-Block : goal.depth_of-returns-in-Block
depth_of-returns-in-Block t c = λ names.
    let e = depth_block names c.args.s.now _ _ c.in-Block.is in
    let k = c.depth_of_row.ensures names in
    grind (arith, common_steps, e, k)

pub depth_of-returns-in-If : goal.depth_of-returns-in-If
depth_of-returns-in-If t c = λ names.
    let e = depth_if names c.args.s.now _ _ _ _ c.in-If.is in
    let k = c.depth_of.ensures names in
    let m = c.depth_of_arm.ensures names in
    grind (arith, common_steps, e, k, m)

pub depth_of-returns-in-For : goal.depth_of-returns-in-For
depth_of-returns-in-For t c = λ names.
    let e = depth_for names c.args.s.now _ _ _ _ _ c.in-For.is in
    let j = c.depth_of_row-in-For.ensures names in
    let k = c.depth_of-in-For.ensures names in
    let m = c.depth_of_arm-in-For.ensures names in
    grind (arith, common_steps, e, j, k, m)

pub depth_of_row-loop-s-init : goal.depth_of_row-loop-s-init
depth_of_row-loop-s-init t c = (omega arith, λ names. omega arith)

pub depth_of_row-loop-s-preserved : goal.depth_of_row-loop-s-preserved
depth_of_row-loop-s-preserved t c = (
  omega arith,
  λ names.
      let k = c.loop-s.invariant.1 names in
      let e = depth_more names c.args.row.now c.loop-s.s-index c.s-item.result c.loop-s-test.true c.s-item.is in
      let m = c.depth_of.ensures names in
      omega (arith, e, k, m),
)

pub depth_of_row-returns : goal.depth_of_row-returns
depth_of_row-returns t c = λ names.
    let k = c.loop-s.invariant.1 names in
    let e = depth_end names c.args.row.now c.loop-s.s-index (omega arith) in
    omega (arith, e, k)
