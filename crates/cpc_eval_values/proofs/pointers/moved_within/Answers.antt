use Rattle.std.proofs.Common.{◌≡◌, pos, ◌+ℤ◌, ◌≤ℤ◌, ◌<ℤ◌, to_z, of_z, to_z-of_z, arith}
use Rattle.std.proofs.lemmas.Int.{ints}
use Rattle.std.specs.Int.{w128, saturate_signed}
use Rattle.cpc_eval_values.proofs.Pointing.{within, leaves_down, leaves_up, size_below}
use Rattle.cpc_eval_values.proofs.pointers.moved_within.Goals as goal
use Rattle.cpc_eval_values.proofs.pointers.moved_within.Goals.{else-target-ge0-via-then-target-ge0+else-target-from, else-target-ge0-via-else-target-ge0}

pub returns-then-target-from-clause-value : goal.returns-then-target-from-clause-value
returns-then-target-from-clause-value c = λ names d e.
    let t : to_z w128 (of_z w128 c.saturating_add-target.result) ≡ c.saturating_add-target.result = grind (arith, to_z-of_z) in
    let f : c.saturating_add-target.result ≡ saturate_signed w128 (pos c.args.offset +ℤ c.args.by) = grind (arith, to_z-of_z) in
    let low : pos 0 ≤ℤ c.saturating_add-target.result = grind (arith, ints, to_z-of_z) in
    let high : c.saturating_add-target.result ≤ℤ pos c.in-Some.size = grind (arith, ints, to_z-of_z) in
    let below = size_below c.args.block.class c.args.block.number c.in-Some.size c.args.store.now c.in-Some.ensures in
    rw t (within names c.args.store.now c.args.block.class c.args.block.number c.args.offset c.in-Some.size d c.args.by c.saturating_add-target.result c.in-Some.ensures c.requires (omega arith) e f low high)

pub returns-then-target-from-clause-lawful : goal.returns-then-target-from-clause-lawful
returns-then-target-from-clause-lawful c =
    let t : to_z w128 (of_z w128 c.saturating_add-target.result) ≡ c.saturating_add-target.result = grind (arith, to_z-of_z) in
    let low : pos 0 ≤ℤ c.saturating_add-target.result = grind (arith, ints, to_z-of_z) in
    let high : c.saturating_add-target.result ≤ℤ pos c.in-Some.size = grind (arith, ints, to_z-of_z) in
    let below = size_below c.args.block.class c.args.block.number c.in-Some.size c.args.store.now c.in-Some.ensures in
    rw t (omega (arith, ints))

pub returns-else-target-ge0-clause-value : goal.returns-else-target-ge0-clause-value
returns-else-target-ge0-clause-value c = λ names d e.
    let f : c.saturating_add-target.result ≡ saturate_signed w128 (pos c.args.offset +ℤ c.args.by) = grind (arith, to_z-of_z) in
    let below = size_below c.args.block.class c.args.block.number c.in-Some.size c.args.store.now c.in-Some.ensures in
    elim c.else-target-ge0.branch [
      | else-target-ge0-via-then-target-ge0+else-target-from w ↦ (let high : pos c.in-Some.size <ℤ c.saturating_add-target.result = grind (arith, ints, to_z-of_z) in
          leaves_up names c.args.store.now c.args.block.class c.args.block.number c.args.offset c.in-Some.size d c.args.by c.saturating_add-target.result c.in-Some.ensures c.requires (omega arith) e f high)
      | else-target-ge0-via-else-target-ge0 w ↦ (let low : c.saturating_add-target.result <ℤ pos 0 = grind (arith, ints, to_z-of_z) in
          leaves_down names c.args.store.now c.args.block.class c.args.block.number c.args.offset c.in-Some.size d c.args.by c.saturating_add-target.result c.in-Some.ensures c.requires e f low)
    ]
