use Rattle.std.proofs.Common.{arith}
use Rattle.std.proofs.lemmas.Grind.{common_steps}
use Rattle.cpc_check_names.proofs.Counted.{counted_block, counted_for, counted_alone, counted_end}
use Rattle.cpc_check_names.proofs.counts.+counted.Goals as goal

pub row_count-returns : goal.row_count-returns
row_count-returns t c = λ names.
    let k = c.loop-s.invariant.1 names in
    let e = counted_end names c.args.row.now c.loop-s.s-index (omega arith) in
    omega (arith, e, k)

pub statement_count-returns-in-Block : goal.statement_count-returns-in-Block
statement_count-returns-in-Block t c = λ names.
    let e = counted_block names c.args.s.now _ _ c.in-Block.is in
    let k = c.row_count.ensures names in
    grind (arith, common_steps, e, k)

pub statement_count-returns-in-Some-step : goal.statement_count-returns-in-Some-step
statement_count-returns-in-Some-step t c = λ names.
    let e = counted_for names c.args.s.now _ _ _ _ _ _ c.in-For.is c.in-Some-step.is in
    let k = c.row_count-in-For.ensures names in
    let m = c.statement_count-in-For.ensures names in
    let n = c.statement_count-in-Some-step.ensures names in
    grind (arith, common_steps, e, k, m, n)

pub statement_count-returns-in-None-step : goal.statement_count-returns-in-None-step
statement_count-returns-in-None-step t c = λ names.
    let e = counted_alone names c.args.s.now _ _ _ _ _ c.in-For.is c.in-None-step.is in
    let k = c.row_count-in-For.ensures names in
    let m = c.statement_count-in-For.ensures names in
    grind (arith, common_steps, e, k, m)
