use Rattle.std.proofs.Common.{arith}
use Rattle.std.proofs.lemmas.Grind.{common_steps}
use Rattle.cpc_eval_locals.proofs.Counted.{declared_block, declared_for, declared_end, declared_more}
use Rattle.cpc_eval_locals.proofs.counting.+declared.Goals as goal

pub declared-returns-in-Block : goal.declared-returns-in-Block
declared-returns-in-Block t c = λ names.
    let e = declared_block names c.args.statement.now _ _ c.in-Block.is in
    let k = c.declared_in.ensures names in
    grind (arith, common_steps, e, k)

pub declared-returns-in-For : goal.declared-returns-in-For
declared-returns-in-For t c = λ names.
    let e = declared_for names c.args.statement.now _ _ _ _ _ c.in-For.is in
    let k = c.declared_in-in-For.ensures names in
    let m = c.declared-in-For.ensures names in
    grind (arith, common_steps, e, k, m)

pub declared_in-returns : goal.declared_in-returns
declared_in-returns t c = λ names.
    let k = c.loop-statement.invariant.1 names in
    let e = declared_end names c.args.row.now c.loop-statement.statement-index (omega arith) in
    omega (arith, e, k)

pub declared_in-loop-statement-preserved : goal.declared_in-loop-statement-preserved
declared_in-loop-statement-preserved t c = (
  omega arith,
  λ names.
      let k = c.loop-statement.invariant.1 names in
      let e = declared_more names c.args.row.now c.loop-statement.statement-index c.statement-item.result c.loop-statement-test.true c.statement-item.is in
      let m = c.declared.ensures names in
      omega (arith, e, k, m),
)
