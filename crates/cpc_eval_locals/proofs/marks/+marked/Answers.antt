use Rattle.std.proofs.Common.{◌∙◌, arith}
use Rattle.cpc_eval_locals.specs.Seen.{marks_seen}
use Rattle.cpc_eval_locals.proofs.Noting.{row_next, row_done, note_ok, block_ok, for_ok}
use Rattle.cpc_eval_locals.proofs.marks.+marked.Goals as goal

pub mark_parts-returns-in-Block : goal.mark_parts-returns-in-Block
mark_parts-returns-in-Block t c = block_ok c.mark_row.result c.mark_row.new.marks.items c.args.marks.now.items c.args.depth c.args.s.now _ c.in-Block.inner c.deref.result.now c.in-Block.is c.deref.ensures.value c.mark_row.ensures

pub mark_parts-returns-in_ok-mark_row-in-For : goal.mark_parts-returns-in_ok-mark_row-in-For
mark_parts-returns-in_ok-mark_row-in-For t c =
    for_ok c.note-in-For.result c.note-in-For.new.marks.items c.mark_row-in-For.new.marks.items c.args.marks.now.items c.args.depth c.args.s.now _ c.in-For.first c.in-For.test c.in-For.step c.in-For.body c.deref-in-For.result.now c.deref-in-For-2.result.now
    c.in-For.is c.deref-in-For.ensures.value c.deref-in-For-2.ensures c.in_ok-mark_row-in-For.ensures c.note-in-For.ensures

pub note-returns : goal.note-returns
note-returns t c =
    note_ok c.mark_parts.result c.mark_parts.new.marks.items c.push.new.self.items c.args.marks.now.items c.args.key c.args.depth c.in_ok-inner.inner c.declared-count.result c.in_ok-own.own c.args.s.now
    c.in_ok-push.ensures.items (omega (arith, c.in_ok-inner.ensures)) c.declared-count.ensures c.in_ok-own.ensures (omega (arith, c.if-count-eq0.false)) c.mark_parts.ensures

pub mark_row-loop-n-preserved : goal.mark_row-loop-n-preserved
mark_row-loop-n-preserved t c = (
  omega arith,
  λ names.
      let l = c.loop-n in
      row_next c.args.heads c.args.depth names c.args.row.now l.n c.index-row-n.result c.row_key.result (marks_seen names l.marks.items) (marks_seen names c.note.new.marks.items) c.loop-n-test.true c.index-row-n.is c.row_key.ensures (c.in_ok-note.ensures names)
      ∙ l.invariant.1 names,
)

pub mark_row-returns : goal.mark_row-returns
mark_row-returns t c = λ names.
    let l = c.loop-n in
    row_done c.args.heads c.args.depth names c.args.row.now l.n (marks_seen names l.marks.items) c.loop-n-test.false ∙ l.invariant.1 names
