use Rattle.std.proofs.Common.{◌≡◌, ◌+◌, drop, length, sym, subst, ◌∙◌, option_map, arith}
use Rattle.std.proofs.lemmas.Result.{on_ok_weaker}
use Rattle.cpc_tree.specs.declared.program.Statement.TheVariants as T
use Rattle.cpc_tree.specs.Erase.{expr_of, stmt_of, list_of, maybe_at}
use Rattle.cpc_tree.proofs.Nodes.{row_more, row_end, block_row}
use Rattle.cpc_eval_index.specs.Indexed.{items_of}
use Rattle.cpc_forms_code.proofs.Statements.{if_row, while_row, do_row, for_row}
use Rattle.cpc_box.proofs.Going.{stands_on, stands_in, by_stmt, if_walked, while_walked, do_walked, for_walked}
use Rattle.cpc_box.proofs.Rows.{begins, stands_there, goes_on, ends, rest_same}
use Rattle.cpc_box.proofs.Statements.{empty_block, full_block}
use Rattle.cpc_box.proofs.walk.Walk.+walked.Goals as goal

pub inside-returns-in-Block : goal.inside-returns-in-Block
inside-returns-in-Block t c = on_ok_weaker c.block.result (λ h names sc st.
    let items = items_of names c.args.known.around.index.now in
    let ms = c.args.known.kept.now in
    let texts = c.args.known.around.texts.now in
    let a = c.args.self.now in
    by_stmt names ms items c.args.fixed sc (length a.variables.items) a _ _ _ (block_row names c.args.s.now _ _ c.deref.result.now c.in-Block.is c.deref.ensures.value) (h names sc st)) c.block.ensures

pub inside-returns-in_ok-inside-in-If : goal.inside-returns-in_ok-inside-in-If
inside-returns-in_ok-inside-in-If t c = on_ok_weaker c.arm.result (λ h names sc st.
    let items = items_of names c.args.known.around.index.now in
    let ms = c.args.known.kept.now in
    let texts = c.args.known.around.texts.now in
    let a = c.args.self.now in
    let w = c.in_ok-push_test-in-If.ensures names ms items sc st.scope in
    let st1 = stands_on names ms texts _ _ _ _ _ sc st w in
    let v = c.in_ok-inside-in-If.ensures names sc st1 in
    let st2 = stands_on names ms texts _ _ _ _ _ sc st1 v in
    by_stmt names ms items c.args.fixed sc (length a.variables.items) a _ _ _ (if_row names c.args.s.now _ _ _ _ c.deref-in-If.result.now (subst (λ t. c.args.s.now ≡ T.If c.in-If.place t c.in-If.yes c.in-If.no) (sym c.expr.ensures) c.in-If.is) c.deref-in-If.ensures)
    (if_walked names ms items c.args.fixed sc (expr_of names c.expr.result.now) (stmt_of names c.deref-in-If.result.now) (maybe_at names c.in-If.no) _ _ _ _ w v (h names sc st2))) c.arm.ensures

pub inside-returns-in_ok-push_test-in-While : goal.inside-returns-in_ok-push_test-in-While
inside-returns-in_ok-push_test-in-While t c = on_ok_weaker c.inside-in-While.result (λ h names sc st.
    let items = items_of names c.args.known.around.index.now in
    let ms = c.args.known.kept.now in
    let texts = c.args.known.around.texts.now in
    let a = c.args.self.now in
    let w = c.in_ok-push_test-in-While.ensures names ms items sc st.scope in
    let st1 = stands_on names ms texts _ _ _ _ _ sc st w in
    by_stmt names ms items c.args.fixed sc (length a.variables.items) a _ _ _ (while_row names c.args.s.now _ _ _ c.deref-in-While.result.now (subst (λ t. c.args.s.now ≡ T.While c.in-While.place t c.in-While.body) (sym c.expr-in-While.ensures) c.in-While.is) c.deref-in-While.ensures)
    (while_walked names ms items c.args.fixed sc (expr_of names c.expr-in-While.result.now) (stmt_of names c.deref-in-While.result.now) _ _ _ w (h names sc st1))) c.inside-in-While.ensures

pub inside-returns-in_ok-inside-in-DoWhile : goal.inside-returns-in_ok-inside-in-DoWhile
inside-returns-in_ok-inside-in-DoWhile t c = on_ok_weaker c.push_test-in-DoWhile.result (λ h names sc st.
    let items = items_of names c.args.known.around.index.now in
    let ms = c.args.known.kept.now in
    let texts = c.args.known.around.texts.now in
    let a = c.args.self.now in
    let w = c.in_ok-inside-in-DoWhile.ensures names sc st in
    let st1 = stands_on names ms texts _ _ _ _ _ sc st w in
    by_stmt names ms items c.args.fixed sc (length a.variables.items) a _ _ _ (do_row names c.args.s.now _ _ _ c.deref-in-DoWhile.result.now (subst (λ t. c.args.s.now ≡ T.DoWhile c.in-DoWhile.place c.in-DoWhile.body t) (sym c.expr-in-DoWhile.ensures) c.in-DoWhile.is) c.deref-in-DoWhile.ensures)
    (do_walked names ms items c.args.fixed sc (expr_of names c.expr-in-DoWhile.result.now) (stmt_of names c.deref-in-DoWhile.result.now) _ _ _ w (h names ms items sc st1.scope))) c.push_test-in-DoWhile.ensures

pub inside-returns-in_ok-arm-in-For : goal.inside-returns-in_ok-arm-in-For
inside-returns-in_ok-arm-in-For t c = on_ok_weaker c.inside-in-For.result (λ h names sc st.
    let items = items_of names c.args.known.around.index.now in
    let ms = c.args.known.kept.now in
    let texts = c.args.known.around.texts.now in
    let a = c.args.self.now in
    let came = c.in_ok-inner-in-For.ensures names sc st in
    let st1 = stands_in names ms texts _ _ _ _ _ _ sc _ st came in
    let w = c.in_ok-push_maybe-in-For.ensures names ms items _ st1.scope in
    let st2 = stands_on names ms texts _ _ _ _ _ _ st1 w in
    let v = c.in_ok-arm-in-For.ensures names _ st2 in
    let st3 = stands_on names ms texts _ _ _ _ _ _ st2 v in
    by_stmt names ms items c.args.fixed sc (length a.variables.items) a _ _ _
    (for_row names c.args.s.now c.in-For.place c.in-For.first c.in-For.test c.in-For.step c.in-For.body c.deref-in-For.result.now c.deref-in-For-2.result.now c.in-For.is c.deref-in-For.ensures.value c.deref-in-For-2.ensures)
    (for_walked names ms items c.args.fixed sc (list_of names c.deref-in-For.result.now) (option_map (expr_of names) c.in-For.test) (maybe_at names c.in-For.step) (stmt_of names c.deref-in-For-2.result.now) _ _ _ _ _ came.walked w v (h names _ st3))) c.inside-in-For.ensures

-- ---- rows

pub row-loop-s-init : goal.row-loop-s-init
row-loop-s-init t c = λ names sc st.
    begins names c.args.known.kept.now (items_of names c.args.known.around.index.now) c.args.fixed c.args.known.around.texts.now c.args.self.now c.args.scope sc (list_of names c.args.row.now) st

pub row-loop-s-preserved : goal.row-loop-s-preserved
row-loop-s-preserved t c = λ names sc st.
    let items = items_of names c.args.known.around.index.now in
    let ms = c.args.known.kept.now in
    let texts = c.args.known.around.texts.now in
    let row = c.args.row.now in
    let i = c.loop-s.s-index in
    let s = c.s-item.result in
    let whole = list_of names row in
    let so = rest_same names ms items c.args.fixed c.args.self.now c.loop-s.self c.loop-s.inner sc whole _ _ (row_more names row i s c.loop-s-test.true c.s-item.is) (c.loop-s.invariant names sc st) in
    goes_on names ms items c.args.fixed texts c.args.self.now c.args.scope sc whole c.loop-s.self c.statement.new.self c.loop-s.inner c.in_ok-inner.inner (stmt_of names s) (list_of names (drop (i + 1) row)) so
    (c.in_ok-inner.ensures names so.inner (stands_there names ms items c.args.fixed texts c.args.self.now c.args.scope sc whole c.loop-s.self c.loop-s.inner _ st so))

pub row-returns : goal.row-returns
row-returns t c = λ names sc st.
    let items = items_of names c.args.known.around.index.now in
    let ms = c.args.known.kept.now in
    let texts = c.args.known.around.texts.now in
    let row = c.args.row.now in
    let whole = list_of names row in
    ends names ms items c.args.fixed texts c.args.self.now c.args.scope sc whole c.loop-s.self c.loop-s.inner
    (rest_same names ms items c.args.fixed c.args.self.now c.loop-s.self c.loop-s.inner sc whole _ _ (row_end names row c.loop-s.s-index (omega arith)) (c.loop-s.invariant names sc st))

-- ---- blocks

pub block-returns-then-is_none : goal.block-returns-then-is_none
block-returns-then-is_none t c = on_ok_weaker c.push_empty.result (λ h names sc st.
    let items = items_of names c.args.known.around.index.now in
    let ms = c.args.known.kept.now in
    let a = c.args.self.now in
    empty_block names ms items c.args.fixed sc (length a.variables.items) a c.push_empty.new.self c.args.row.now (sym c.is_none.ensures ∙ c.if-is_none.true) (h names ms items sc st.scope)) c.push_empty.ensures

pub block-returns : goal.block-returns
block-returns t c = λ names sc st.
    let items = items_of names c.args.known.around.index.now in
    let ms = c.args.known.kept.now in
    let a = c.args.self.now in
    let came = c.in_ok-row.ensures names sc st in
    full_block names ms items c.args.fixed sc (length a.variables.items) a c.row.new.self c.args.row.now (sym c.is_none.ensures ∙ c.if-is_none.false) came.walked
