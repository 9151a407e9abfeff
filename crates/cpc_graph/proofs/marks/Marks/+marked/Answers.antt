use Rattle.std.proofs.Common.{◌≡◌, ◌+◌, ◌++◌, ◌∷◌, [], length, ap, sym, ◌∙◌, option_map, arith}
use Rattle.std.proofs.lemmas.Result.{on_ok_weaker, IfOk-weaker}
use Rattle.cpc_base.proofs.Lists.{appended_empty}
use Rattle.cpc_tree.specs.Syntax as S
use Rattle.cpc_tree.specs.Erase.{expr_of, stmt_of, list_of, maybe_at}
use Rattle.cpc_tree.proofs.Nodes.{block_row}
use Rattle.cpc_forms.specs.Order.{points_of, points_arm}
use Rattle.cpc_forms.specs.Table.{labels_of, labels_in, labels_arm, test_of, body_of}
use Rattle.cpc_forms_code.proofs.Statements.{for_row}
use Rattle.cpc_graph.specs.Ends.{ends_of, ends_in, ends_arm, header_ends, step_ends}
use Rattle.cpc_graph.specs.Labels.{labels_seen}
use Rattle.cpc_graph.proofs.Marking.{unnamed, on_any, place_within, put_place, three_added, labels_back, none_row, some_points, points_more, ends_more, labels_more, for_count}
use Rattle.cpc_graph.proofs.marks.Marks.+marked.Goals as goal

-- ---- a number that is noted before

pub noted-end-requires : goal.noted-end-requires
noted-end-requires t c =
    place_within c.args.self.now.ends.items c.statement.new.self.ends.items _ _ c.in_ok-place.ensures.place
    (c.in_ok-after.ensures.ends unnamed ∙ ap (λ l. l ++ ends_of (stmt_of unnamed c.args.s.now) c.args.n) c.in_ok-place.ensures.ends)

pub noted-returns-clause-ends : goal.noted-returns-clause-ends
noted-returns-clause-ends t c = λ names.
    put_place c.args.self.now.ends.items c.statement.new.self.ends.items (ends_of (stmt_of names c.args.s.now) c.args.n) _ _ _ _ c.in_ok-place.ensures.place
    (c.in_ok-after.ensures.ends names ∙ ap (λ l. l ++ ends_of (stmt_of names c.args.s.now) c.args.n) c.in_ok-place.ensures.ends)
    c.end.ensures.ends
    (c.in_ok-after.ensures.number names)

pub header-end-requires : goal.header-end-requires
header-end-requires t c =
    place_within c.args.self.now.ends.items c.row.new.self.ends.items _ _ c.in_ok-place.ensures.place
    (c.in_ok-test.ensures.ends unnamed ∙ ap (λ l. l ++ ends_in (list_of unnamed c.args.first.now) c.args.n) c.in_ok-place.ensures.ends)

pub header-returns-clause-ends : goal.header-returns-clause-ends
header-returns-clause-ends t c = λ names.
    put_place c.args.self.now.ends.items c.row.new.self.ends.items (ends_in (list_of names c.args.first.now) c.args.n) _ _ _ _ c.in_ok-place.ensures.place
    (c.in_ok-test.ensures.ends names ∙ ap (λ l. l ++ ends_in (list_of names c.args.first.now) c.args.n) c.in_ok-place.ensures.ends)
    c.end.ensures.ends
    (c.in_ok-test.ensures.number names)

pub header-returns-clause-labels : goal.header-returns-clause-labels
header-returns-clause-labels t c = λ names.
    labels_back names c.args.self.now.labels.items c.end.new.self.labels.items c.truncate.new.self.items (labels_in (list_of names c.args.first.now) c.args.n) c.len-count.result (let h : c.len-count.result ≡ length c.args.self.now.labels.items = omega arith in h)
    (ap (labels_seen names) c.end.ensures.labels ∙ (c.in_ok-test.ensures.labels names ∙ ap (λ l. labels_seen names l ++ labels_in (list_of names c.args.first.now) c.args.n) c.in_ok-place.ensures.labels))
    c.truncate.ensures.items

pub step-end-requires : goal.step-end-requires
step-end-requires t c =
    place_within c.args.self.now.ends.items c.arm.new.self.ends.items _ _ c.in_ok-place.ensures.place
    (c.in_ok-start.ensures.ends unnamed ∙ ap (λ l. l ++ ends_arm (maybe_at unnamed c.args.step.now) c.in_ok-after.after) c.in_ok-place.ensures.ends)

pub step-returns-clause-ends : goal.step-returns-clause-ends
step-returns-clause-ends t c = λ names.
    put_place c.args.self.now.ends.items c.arm.new.self.ends.items (ends_arm (maybe_at names c.args.step.now) (c.args.test + 1)) _ _ _ _ c.in_ok-place.ensures.place
    (c.in_ok-start.ensures.ends names ∙ (ap (λ l. l ++ ends_arm (maybe_at names c.args.step.now) c.in_ok-after.after) c.in_ok-place.ensures.ends
    ∙ ap (λ k. (c.args.self.now.ends.items ++ 0 ∷ []) ++ ends_arm (maybe_at names c.args.step.now) k) c.in_ok-after.ensures))
    c.end.ensures.ends
    (c.in_ok-start.ensures.number names ∙ ap (λ k. k + length (points_arm (maybe_at names c.args.step.now))) c.in_ok-after.ensures)

pub step-returns-clause-labels : goal.step-returns-clause-labels
step-returns-clause-labels t c = λ names.
    labels_back names c.args.self.now.labels.items c.end.new.self.labels.items c.truncate.new.self.items (labels_arm (maybe_at names c.args.step.now) c.in_ok-after.after) c.len-count.result (let h : c.len-count.result ≡ length c.args.self.now.labels.items = omega arith in h)
    (ap (labels_seen names) c.end.ensures.labels ∙ (c.in_ok-start.ensures.labels names ∙ ap (λ l. labels_seen names l ++ labels_arm (maybe_at names c.args.step.now) c.in_ok-after.after) c.in_ok-place.ensures.labels))
    c.truncate.ensures.items

-- ---- blocks

pub block-returns-then-is_none-clause-number : goal.block-returns-then-is_none-clause-number
block-returns-then-is_none-clause-number t c = IfOk-weaker c.behind.result _ _
    (λ m h names. h ∙ ap (λ ss. c.args.n + length (points_of (S.Block ss))) (sym (none_row names c.args.row.now (sym c.is_none.ensures ∙ c.if-is_none.true)))) c.behind.ensures

pub block-returns-then-is_none-clause-ends : goal.block-returns-then-is_none-clause-ends
block-returns-then-is_none-clause-ends t c = on_any c.behind.result (λ names.
    appended_empty c.args.self.now.ends.items ∙ ap (λ ss. c.args.self.now.ends.items ++ ends_of (S.Block ss) c.args.n) (sym (none_row names c.args.row.now (sym c.is_none.ensures ∙ c.if-is_none.true))))

pub block-returns-then-is_none-clause-labels : goal.block-returns-then-is_none-clause-labels
block-returns-then-is_none-clause-labels t c = on_any c.behind.result (λ names.
    appended_empty (labels_seen names c.args.self.now.labels.items)
    ∙ ap (λ ss. labels_seen names c.args.self.now.labels.items ++ labels_of (S.Block ss) c.args.n) (sym (none_row names c.args.row.now (sym c.is_none.ensures ∙ c.if-is_none.true))))

pub block-returns-else-is_none-clause-number : goal.block-returns-else-is_none-clause-number
block-returns-else-is_none-clause-number t c = IfOk-weaker c.row.result _ _
    (λ m h names. h names ∙ ap (λ ps. c.args.n + length ps) (some_points names c.args.row.now (sym c.is_none.ensures ∙ c.if-is_none.false))) c.row.ensures.number

pub statement-returns-in-Block-clause-number : goal.statement-returns-in-Block-clause-number
statement-returns-in-Block-clause-number t c = IfOk-weaker c.block.result _ _
    (λ m h names. h names ∙ ap (λ s. c.args.n + length (points_of s)) (block_row names c.args.s.now _ _ c.deref.result.now c.in-Block.is c.deref.ensures.value)) c.block.ensures.number

pub statement-returns-in-Block-clause-ends : goal.statement-returns-in-Block-clause-ends
statement-returns-in-Block-clause-ends t c = on_ok_weaker c.block.result (λ h names.
    h names ∙ ap (λ s. c.args.self.now.ends.items ++ ends_of s c.args.n) (block_row names c.args.s.now _ _ c.deref.result.now c.in-Block.is c.deref.ensures.value)) c.block.ensures.ends

pub statement-returns-in-Block-clause-labels : goal.statement-returns-in-Block-clause-labels
statement-returns-in-Block-clause-labels t c = on_ok_weaker c.block.result (λ h names.
    h names ∙ ap (λ s. labels_seen names c.args.self.now.labels.items ++ labels_of s c.args.n) (block_row names c.args.s.now _ _ c.deref.result.now c.in-Block.is c.deref.ensures.value)) c.block.ensures.labels

-- ---- rows

pub row-loop-s-preserved : goal.row-loop-s-preserved
row-loop-s-preserved t c =
    let e = c.in_ok-next.ensures in
    let row = c.args.row.now in
    let i = c.loop-s.s-index in
    let s = c.s-item.result in
    let at = c.loop-s-test.true in
    record {
      number = λ names. points_more names row i s at c.s-item.is c.loop-s.next _ (e.number names) ∙ c.loop-s.invariant.number names;
      ends = λ names. ends_more names row i s at c.s-item.is c.loop-s.next _ c.loop-s.self.ends.items _ (e.number names) (e.ends names) ∙ c.loop-s.invariant.ends names;
      labels = λ names. labels_more names row i s at c.s-item.is c.loop-s.next _ (labels_seen names c.loop-s.self.labels.items) _ (e.number names) (e.labels names) ∙ c.loop-s.invariant.labels names;
    }

-- ---- `for`

pub statement-returns-in_ok-start-in-For-clause-number : goal.statement-returns-in_ok-start-in-For-clause-number
statement-returns-in_ok-start-in-For-clause-number t c = IfOk-weaker c.statement-in-For.result _ _ (λ after h names.
    let first = list_of names c.deref-in-For.result.now in
    let step = maybe_at names c.in-For.step in
    let body = stmt_of names c.deref-in-For-2.result.now in
    h names
    ∙ (ap (λ k. k + length (points_of body)) (c.in_ok-start-in-For.ensures.number names ∙ ap (body_of step) (c.in_ok-test-in-For.ensures.number names))
    ∙ (sym (for_count c.args.n first (option_map (expr_of names) c.in-For.test) step body)
    ∙ ap (λ s. c.args.n + length (points_of s))
    (for_row names c.args.s.now c.in-For.place c.in-For.first c.in-For.test c.in-For.step c.in-For.body c.deref-in-For.result.now c.deref-in-For-2.result.now c.in-For.is c.deref-in-For.ensures.value c.deref-in-For-2.ensures)))) c.statement-in-For.ensures.number

pub statement-returns-in_ok-start-in-For-clause-ends : goal.statement-returns-in_ok-start-in-For-clause-ends
statement-returns-in_ok-start-in-For-clause-ends t c = on_ok_weaker c.statement-in-For.result (λ h names.
    let first = list_of names c.deref-in-For.result.now in
    let step = maybe_at names c.in-For.step in
    let body = stmt_of names c.deref-in-For-2.result.now in
    let test = c.in_ok-test-in-For.ensures.number names in
    let start = c.in_ok-start-in-For.ensures.number names ∙ ap (body_of step) test in
    three_added c.args.self.now.ends.items (header_ends first c.args.n) (step_ends step (test_of first c.args.n)) (ends_of body (body_of step (test_of first c.args.n)))
    c.header.new.self.ends.items c.step.new.self.ends.items c.statement-in-For.new.self.ends.items
    (c.in_ok-test-in-For.ensures.ends names)
    (c.in_ok-start-in-For.ensures.ends names ∙ ap (λ k. c.header.new.self.ends.items ++ step_ends step k) test)
    (h names ∙ ap (λ k. c.step.new.self.ends.items ++ ends_of body k) start)
    ∙ ap (λ s. c.args.self.now.ends.items ++ ends_of s c.args.n)
    (for_row names c.args.s.now c.in-For.place c.in-For.first c.in-For.test c.in-For.step c.in-For.body c.deref-in-For.result.now c.deref-in-For-2.result.now c.in-For.is c.deref-in-For.ensures.value c.deref-in-For-2.ensures)) c.statement-in-For.ensures.ends

pub statement-returns-in_ok-start-in-For-clause-labels : goal.statement-returns-in_ok-start-in-For-clause-labels
statement-returns-in_ok-start-in-For-clause-labels t c = on_ok_weaker c.statement-in-For.result (λ h names.
    let first = list_of names c.deref-in-For.result.now in
    let step = maybe_at names c.in-For.step in
    let body = stmt_of names c.deref-in-For-2.result.now in
    let start = c.in_ok-start-in-For.ensures.number names ∙ ap (body_of step) (c.in_ok-test-in-For.ensures.number names) in
    h names
    ∙ (ap (λ l. l ++ labels_of body c.in_ok-start-in-For.start) (c.in_ok-start-in-For.ensures.labels names ∙ c.in_ok-test-in-For.ensures.labels names)
    ∙ (ap (λ k. labels_seen names c.args.self.now.labels.items ++ labels_of body k) start
    ∙ ap (λ s. labels_seen names c.args.self.now.labels.items ++ labels_of s c.args.n)
    (for_row names c.args.s.now c.in-For.place c.in-For.first c.in-For.test c.in-For.step c.in-For.body c.deref-in-For.result.now c.deref-in-For-2.result.now c.in-For.is c.deref-in-For.ensures.value c.deref-in-For-2.ensures)))) c.statement-in-For.ensures.labels
