use Rattle.std.proofs.Common.{sym, arith}
use Rattle.cpc_tree.specs.Erase.{list_of}
use Rattle.cpc_tree.proofs.Nodes.{block_seen, for_seen}
use Rattle.cpc_native_points.proofs.Rows.{begun_block, begun_for}
use Rattle.cpc_native_points.proofs.Fitting.{block_long, for_long}
use Rattle.cpc_native_points.proofs.entering.+entered.Goals as goal

pub enter-returns-in-Block-clause-items : goal.enter-returns-in-Block-clause-items
enter-returns-in-Block-clause-items t c = λ names.
    let v = c.deref.ensures.value in
    rw (block_seen names c.args.s.now _ _ c.in-Block.is, begun_block (list_of names c.in-Block.inner.items), sym v) (c.enter_row.ensures.items names)

pub enter-returns-in-For-clause-items : goal.enter-returns-in-For-clause-items
enter-returns-in-For-clause-items t c = λ names.
    let v = c.deref-in-For.ensures.value in
    rw (for_seen names c.args.s.now _ _ _ _ _ c.in-For.is, begun_for (list_of names c.in-For.first.items), sym v) (c.enter_row-in-For.ensures.items names)

pub enter-enter_row-requires : goal.enter-enter_row-requires
enter-enter_row-requires t c =
    let e = block_long c.args.s.now _ _ c.deref.result.now c.in-Block.is c.deref.ensures.value in
    let r = c.requires.room in
    let d = c.decreases in
    (omega (arith, e, d), omega (arith, e, r))

pub enter-enter_row-requires-in-For : goal.enter-enter_row-requires-in-For
enter-enter_row-requires-in-For t c =
    let e = for_long c.args.s.now _ _ _ _ _ c.deref-in-For.result.now c.in-For.is c.deref-in-For.ensures.value in
    let r = c.requires.room in
    let d = c.decreases in
    (omega (arith, e, d), omega (arith, e, r))
