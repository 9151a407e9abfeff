use Rattle.std.proofs.Common.{◌≡◌, ◌+◌, ◌++◌, ◌∷◌, [], drop, ap, sym, ◌∙◌, arith, rules, true, Some, if◌then◌else◌}
use Rattle.std.proofs.lemmas.Result.{on_ok_weaker, IfOk-weaker}
use Rattle.cpc_tree.specs.declared.program.Statement.TheViews.{the_lemmas}
use Rattle.cpc_tree.specs.Erase.{stmt_of, list_of, maybe_at}
use Rattle.cpc_forms.specs.Table as T
use Rattle.cpc_forms.specs.Table.{test_of, body_of}
use Rattle.cpc_tree.specs.Lists.{first_or, rest_of}
use Rattle.cpc_tree.proofs.Nodes.{block_row}
use Rattle.cpc_forms_code.proofs.Statements.{for_row, if_row, while_row, do_row}
use Rattle.cpc_graph.specs.Ends.{ends_of, ends_in, ends_arm}
use Rattle.cpc_graph.specs.Ways.{way, ways_of, onward_seen}
use Rattle.cpc_graph.proofs.Linked.{some_ways, front_back, to_the_rest, ends_at, ways_more, finds_same, header_added, ways_end, if_rest, if_left, if_ways, while_ends, while_ways, do_rest, do_ways, for_ends, for_ways, is_leaf, leaf_ways}
use Rattle.cpc_graph.proofs.linking.+linked.Goals as goal

-- ---- blocks

pub link-returns-in-Block-clause-left : goal.link-returns-in-Block-clause-left
link-returns-in-Block-clause-left t c = IfOk-weaker c.link_block.result _ _ (λ left h names more e.
    h names more (e ∙ ap (λ s. ends_of s c.args.n ++ more) (sym (block_row names c.args.s.now _ _ c.deref.result.now c.in-Block.is c.deref.ensures.value)))) c.link_block.ensures.left

pub link-returns-in-Block-clause-ways : goal.link-returns-in-Block-clause-ways
link-returns-in-Block-clause-ways t c = on_ok_weaker c.link_block.result (λ h names label more finds e.
    let is = block_row names c.args.s.now _ _ c.deref.result.now c.in-Block.is c.deref.ensures.value in
    h names label more finds (e ∙ ap (λ s. ends_of s c.args.n ++ more) (sym is)) ∙ ap (λ s. c.args.ways.now.items ++ ways_of s c.args.n (onward_seen label c.args.w)) is) c.link_block.ensures.ways

pub link_block-returns-else-is_none-clause-ways : goal.link_block-returns-else-is_none-clause-ways
link_block-returns-else-is_none-clause-ways t c = on_ok_weaker c.link_row.result (λ h names label more finds e.
    h names label more finds e ∙ ap (λ l. c.args.ways.now.items ++ l) (some_ways names c.args.row.now c.args.n (onward_seen label c.args.w) (sym c.is_none.ensures ∙ c.if-is_none.false))) c.link_row.ensures.ways

-- ---- `if`

pub link-returns-in_ok-ends-in-If-clause-left : goal.link-returns-in_ok-ends-in-If-clause-left
link-returns-in_ok-ends-in-If-clause-left t c = IfOk-weaker c.link_arm.result _ _ (λ left h names more e.
    let a = stmt_of names c.deref-in-If.result.now in
    let b = maybe_at names c.in-If.no in
    let is = if_row names c.args.s.now _ _ _ _ c.deref-in-If.result.now c.in-If.is c.deref-in-If.ensures in
    let st = c.in_ok-start-in-If.ensures in
    let at = if_rest (stmt_of names c.args.s.now) a b _ is c.args.n c.in_ok-start-in-If.start c.first-other.result st c.args.ends.now c.rest.result.now more e c.first-other.ensures c.rest.ensures in
    h names more (if_left (stmt_of names c.args.s.now) a b _ is c.args.n c.in_ok-start-in-If.start c.first-other.result st c.args.ends.now c.rest.result.now more e c.first-other.ensures c.rest.ensures
    c.in_ok-ends-in-If.ends.now (c.in_ok-ends-in-If.ensures.left names _ at))) c.link_arm.ensures.left

pub link-returns-in_ok-ends-in-If-clause-ways : goal.link-returns-in_ok-ends-in-If-clause-ways
link-returns-in_ok-ends-in-If-clause-ways t c = on_ok_weaker c.link_arm.result (λ h names label more finds e.
    let a = stmt_of names c.deref-in-If.result.now in
    let b = maybe_at names c.in-If.no in
    let w = onward_seen label c.args.w in
    let is = if_row names c.args.s.now _ _ _ _ c.deref-in-If.result.now c.in-If.is c.deref-in-If.ensures in
    let st = c.in_ok-start-in-If.ensures in
    let at = if_rest (stmt_of names c.args.s.now) a b _ is c.args.n c.in_ok-start-in-If.start c.first-other.result st c.args.ends.now c.rest.result.now more e c.first-other.ensures c.rest.ensures in
    let left = if_left (stmt_of names c.args.s.now) a b _ is c.args.n c.in_ok-start-in-If.start c.first-other.result st c.args.ends.now c.rest.result.now more e c.first-other.ensures c.rest.ensures
    c.in_ok-ends-in-If.ends.now (c.in_ok-ends-in-If.ensures.left names _ at) in
    if_ways (stmt_of names c.args.s.now) a b _ is c.args.n c.in_ok-start-in-If.start c.first-other.result st c.args.ends.now c.rest.result.now more e c.first-other.ensures c.rest.ensures
    w _ c.args.ways.now.items c.push.new.ways.items c.link.new.ways.items c.link_arm.new.ways.items
    (ap (way (Some c.in_ok-start-in-If.start)) (c.to_arm.ensures names))
    c.in_ok-push-in-If.ensures
    (c.in_ok-ends-in-If.ensures.ways names label _ finds at)
    (h names label more finds left)) c.link_arm.ensures.ways

-- ---- `while` and `do`

pub link-returns-in_ok-push-in-While-clause-ways : goal.link-returns-in_ok-push-in-While-clause-ways
link-returns-in_ok-push-in-While-clause-ways t c = on_ok_weaker c.link-in-While.result (λ h names label more finds e.
    let a = stmt_of names c.deref-in-While.result.now in
    let is = while_row names c.args.s.now _ _ _ c.deref-in-While.result.now c.in-While.is c.deref-in-While.ensures in
    let st = c.in_ok-start-in-While.ensures in
    while_ways (stmt_of names c.args.s.now) a _ is c.args.n c.in_ok-start-in-While.start st (onward_seen label c.args.w) (onward_seen label c.looping.result) (c.looping.ensures.onward label)
    c.args.ways.now.items c.push-in-While.new.ways.items c.link-in-While.new.ways.items
    c.in_ok-push-in-While.ensures
    (h names label more (finds_same names _ _ label c.looping.ensures.labels finds) (while_ends (stmt_of names c.args.s.now) a _ is c.args.n c.in_ok-start-in-While.start st c.args.ends.now more e))) c.link-in-While.ensures.ways

pub link-returns-in_ok-push-in-DoWhile-clause-ways : goal.link-returns-in_ok-push-in-DoWhile-clause-ways
link-returns-in_ok-push-in-DoWhile-clause-ways t c = λ names label more finds e.
    let a = stmt_of names c.deref-in-DoWhile.result.now in
    let is = do_row names c.args.s.now _ _ _ c.deref-in-DoWhile.result.now c.in-DoWhile.is c.deref-in-DoWhile.ensures in
    let at = do_rest (stmt_of names c.args.s.now) a _ is c.args.n c.first.result c.args.ends.now c.rest-in-DoWhile.result.now more e c.first.ensures c.rest-in-DoWhile.ensures in
    do_ways (stmt_of names c.args.s.now) a _ is c.args.n c.first.result c.args.ends.now c.rest-in-DoWhile.result.now more e c.first.ensures c.rest-in-DoWhile.ensures
    (onward_seen label c.args.w) (onward_seen label c.looping-in-DoWhile.result) (c.looping-in-DoWhile.ensures.onward label)
    c.args.ways.now.items c.link-in-DoWhile.new.ways.items c.push-in-DoWhile.new.ways.items
    (c.in_ok-ends-in-DoWhile.ensures.ways names label more (finds_same names _ _ label c.looping-in-DoWhile.ensures.labels finds) at)
    c.in_ok-push-in-DoWhile.ensures

-- ---- `for`

pub link-returns-in_ok-left-in-For-clause-left : goal.link-returns-in_ok-left-in-For-clause-left
link-returns-in_ok-left-in-For-clause-left t c = IfOk-weaker c.link-in-For.result _ _ (λ left h names more e.
    let first = list_of names c.deref-in-For.result.now in
    let step = maybe_at names c.in-For.step in
    let a = stmt_of names c.deref-in-For-2.result.now in
    let is = for_row names c.args.s.now c.in-For.place c.in-For.first c.in-For.test c.in-For.step c.in-For.body c.deref-in-For.result.now c.deref-in-For-2.result.now c.in-For.is c.deref-in-For.ensures.value c.deref-in-For-2.ensures in
    let header = c.in_ok-header-in-For.ensures.header names _ _ (for_ends (stmt_of names c.args.s.now) a first _ step is c.args.n c.args.ends.now more e) in
    let after = c.in_ok-after-in-For.ensures ∙ ap (λ k. k + 1) header.test in
    let left = c.in_ok-left-in-For.ensures.left names _ (header.left ∙ ap (λ k. ends_arm step k ++ (ends_of a (body_of step (test_of first c.args.n)) ++ more)) (sym after)) in
    h names more (left ∙ ap (λ k. ends_of a k ++ more) (sym header.start))) c.link-in-For.ensures.left

pub link-returns-in_ok-left-in-For-clause-ways : goal.link-returns-in_ok-left-in-For-clause-ways
link-returns-in_ok-left-in-For-clause-ways t c = on_ok_weaker c.link-in-For.result (λ h names label more finds e.
    let first = list_of names c.deref-in-For.result.now in
    let step = maybe_at names c.in-For.step in
    let a = stmt_of names c.deref-in-For-2.result.now in
    let is = for_row names c.args.s.now c.in-For.place c.in-For.first c.in-For.test c.in-For.step c.in-For.body c.deref-in-For.result.now c.deref-in-For-2.result.now c.in-For.is c.deref-in-For.ensures.value c.deref-in-For-2.ensures in
    let at = for_ends (stmt_of names c.args.s.now) a first _ step is c.args.n c.args.ends.now more e in
    let header = c.in_ok-header-in-For.ensures.header names _ _ at in
    let after = c.in_ok-after-in-For.ensures ∙ ap (λ k. k + 1) header.test in
    let mid = header.left ∙ ap (λ k. ends_arm step k ++ (ends_of a (body_of step (test_of first c.args.n)) ++ more)) (sym after) in
    let left = c.in_ok-left-in-For.ensures.left names _ mid in
    for_ways (stmt_of names c.args.s.now) a first _ step is c.args.n (onward_seen label c.args.w) (onward_seen label c.going_to.result) (onward_seen label c.looping-in-For.result)
    c.in_ok-header-in-For.header.test c.in_ok-after-in-For.after c.turn-turn.result c.in_ok-header-in-For.header.start header.test c.in_ok-after-in-For.ensures header.start
    (c.going_to.ensures.onward label) (c.looping-in-For.ensures.onward label) (c.turn-turn.ensures names c.in_ok-after-in-For.ensures)
    c.args.ways.now.items c.link_header.new.ways.items c.link_arm-in-For.new.ways.items c.link-in-For.new.ways.items
    (c.in_ok-header-in-For.ensures.ways names label _ _ finds at)
    (c.in_ok-left-in-For.ensures.ways names label _ (finds_same names _ _ label c.going_to.ensures.labels finds) mid)
    (h names label more (finds_same names _ _ label c.looping-in-For.ensures.labels finds) (left ∙ ap (λ k. ends_of a k ++ more) (sym header.start)))) c.link-in-For.ensures.ways

-- ---- what is one point

pub link-returns-in_ok-push-in_default-clause-ways : goal.link-returns-in_ok-push-in_default-clause-ways
link-returns-in_ok-push-in_default-clause-ways t c = λ names label more finds e.
    let leaf : is_leaf (stmt_of names c.args.s.now) ≡ true = search (rules, the_lemmas) in
    c.in_ok-push-in_default.ensures
    ∙ (ap (λ x. c.args.ways.now.items ++ x ∷ []) (c.simple.ensures names label finds)
    ∙ ap (λ l. c.args.ways.now.items ++ l) (leaf_ways (stmt_of names c.args.s.now) c.args.n (onward_seen label c.args.w) leaf))

-- ---- the first part of a `for`

pub link_header-returns-clause-ways : goal.link_header-returns-clause-ways
link_header-returns-clause-ways t c = λ names label start more finds e.
    let at = c.rest.ensures ∙ ap rest_of e in
    let left = c.in_ok-left.ensures.left names (start ∷ more) at in
    header_added names c.args.row.now c.args.n c.first-test.result c.first-start.result start (onward_seen label c.args.w) (onward_seen label c.going_to.result)
    (c.first-test.ensures ∙ ap (first_or 0) e) (c.first-start.ensures ∙ ap (first_or 0) left) (c.going_to.ensures.onward label)
    c.args.ways.now.items c.link_row.new.ways.items c.push.new.ways.items
    (c.in_ok-left.ensures.ways names label (start ∷ more) (finds_same names _ _ label c.going_to.ensures.labels finds) at)
    c.in_ok-push.ensures

-- ---- rows

pub link_row-loop-i-preserved : goal.link_row-loop-i-preserved
link_row-loop-i-preserved t c =
    let row = c.args.row.now in
    let i = c.loop-i.i in
    let s = c.index-row-i.result in
    let n = c.loop-i.next in
    let h = c.loop-i-test.true in
    record {
      left = λ names more e.
          let rest = list_of names (drop (i + 1) row) in
          let at = ends_at names row i s h c.index-row-i.is n c.loop-i.left.now more (c.loop-i.invariant.left names more e) in
          let after = c.first-after.ensures ∙ ap (first_or 0) at in
          c.in_ok-left.ensures.left names _ (c.rest.ensures ∙ front_back c.loop-i.left.now _ (ends_of (stmt_of names s) n) _ more at) ∙ ap (λ k. ends_in rest k ++ more) (sym after);
      ways = λ names label more finds e.
          let rest = list_of names (drop (i + 1) row) in
          let w = onward_seen label c.args.w in
          let at = ends_at names row i s h c.index-row-i.is n c.loop-i.left.now more (c.loop-i.invariant.left names more e) in
          let after = c.first-after.ensures ∙ ap (first_or 0) at in
          let to = c.to_rest-to.ensures.onward label ∙ (ap (λ b. if b then w else T.going_to c.first-after.result w) c.is_last.ensures
          ∙ (to_the_rest names (drop (i + 1) row) c.first-after.result w ∙ ap (λ k. T.to_rest rest k w) after)) in
          ways_more names row i s h c.index-row-i.is n c.first-after.result c.loop-i.ways.items c.link.new.ways.items w (onward_seen label c.to_rest-to.result) after to
          (c.in_ok-left.ensures.ways names label _ (finds_same names _ _ label c.to_rest-to.ensures.labels finds) (c.rest.ensures ∙ front_back c.loop-i.left.now _ (ends_of (stmt_of names s) n) _ more at))
          ∙ c.loop-i.invariant.ways names label more finds e;
    }

pub link_row-returns-clause-ways : goal.link_row-returns-clause-ways
link_row-returns-clause-ways t c = λ names label more finds e.
    ways_end names c.args.row.now c.loop-i.i c.loop-i.next (onward_seen label c.args.w) c.loop-i.ways.items _ (omega arith) (c.loop-i.invariant.ways names label more finds e)
