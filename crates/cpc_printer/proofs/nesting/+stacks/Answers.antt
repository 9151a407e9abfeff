use Rattle.std.proofs.Common.{arith}
use Rattle.std.proofs.lemmas.Grind.{common_steps}
use Rattle.cpc_printer.proofs.NestRows.{block_more, block_end, block_nest, for_nest, stmt_is}
use Rattle.cpc_tree.specs.Erase.{stmt_of}
use Rattle.cpc_printer.proofs.nesting.+stacks.Goals as goal

pub statement_depth-returns-in-Block : goal.statement_depth-returns-in-Block
statement_depth-returns-in-Block t c = λ names.
    let e = block_nest names c.args.s.now _ _ c.in-Block.is in
    let k = c.block_depth.ensures names in
    grind (arith, common_steps, e, k)

pub block_depth-loop-s-preserved : goal.block_depth-loop-s-preserved
block_depth-loop-s-preserved t c = λ names.
    let k = c.loop-s.invariant names in
    let d = c.statement_depth.ensures names in
    let e = block_more names c.args.inner.now c.loop-s.s-index c.s-item.result (omega arith) c.s-item.is in
    omega (arith, e, k, d)

pub block_depth-returns : goal.block_depth-returns
block_depth-returns t c = λ names.
    let k = c.loop-s.invariant names in
    let e = block_end names c.args.inner.now c.loop-s.s-index (omega arith) in
    omega (arith, e, k)

pub statement_depth-returns-in-For : goal.statement_depth-returns-in-For
statement_depth-returns-in-For t c = λ names.
    let e = for_nest names c.args.s.now _ _ _ _ _ c.in-For.is in
    let k = c.head_parts_depth-head.ensures names in
    let m = c.statement_depth-in-For.ensures names in
    let s = stmt_is (stmt_of names c.in-For.body.value) in
    grind (arith, common_steps, e, k, m, s)
