use Rattle.cpc_tree.specs.declared.program.Statement.TheVariants as T
use Rattle.std.proofs.Common.{◌≡◌, sym, ap, ◌∙◌, subst, arith}
use Rattle.std.proofs.lemmas.Result.{on_ok_weaker}
use Rattle.cpc_tree.specs.Locate.{located_list}
use Rattle.cpc_check_rules.specs.Apart.{Spells}
use Rattle.cpc_check_rules.specs.Noted.{noted, first_of}
use Rattle.cpc_check_rules.specs.StmtRules.{in_scope, stmts_breaks}
use Rattle.cpc_types.specs.Blocks.{without_block}
use Rattle.cpc_check_statements.specs.Standing.{standing}
use Rattle.cpc_check_statements.proofs.Walk.{walk_left, walk_more, behind_more, walk_block, walk_if, walk_while, walk_do, walk_for, kept_behind}
use Rattle.cpc_check_statements.proofs.statements.+statements.Goals as goal

pub next_rules-returns-in_default : goal.next_rules-returns-in_default
next_rules-returns-in_default t c = record {
  noted = c.statement_rules.ensures.noted;
  scope = on_ok_weaker c.statement_rules.result (λ h names. h names ∙ sym (kept_behind names (standing names c.args.scope.now c.args.around.now) c.args.s.now c.in_default.not-Declare)) c.statement_rules.ensures.scope;
  all = c.statement_rules.ensures.all;
}

pub block_rules-returns-clause-noted : goal.block_rules-returns-clause-noted
block_rules-returns-clause-noted t c = λ names spells.
    let w = standing names c.args.scope.now c.args.around.now in
    c.in_ok-row_rules.ensures.noted names spells ∙ ap (λ s. noted (first_of c.args.first.now) (stmts_breaks (in_scope w s) (located_list names c.args.row.now))) (c.in_ok-enter_block.ensures.ok names)

pub block_rules-returns-clause-scope : goal.block_rules-returns-clause-scope
block_rules-returns-clause-scope t c = λ names.
    c.leave_block.ensures.scope names ∙ walk_left (standing names c.args.scope.now c.args.around.now) (located_list names c.args.row.now) _ _ (c.in_ok-enter_block.ensures.ok names) (c.in_ok-row_rules.ensures.scope names)

pub row_rules-loop-s-preserved : goal.row_rules-loop-s-preserved
row_rules-loop-s-preserved t c = record {
  told = λ names spells.
      walk_more names (standing names c.loop-s.scope c.args.around.now) (first_of c.loop-s.first) _ _ c.args.row.now c.loop-s.s-index c.s-item.result (omega arith) c.s-item.is (c.in_ok-next_rules.ensures.noted names spells) (c.in_ok-next_rules.ensures.scope names)
      ∙ c.loop-s.invariant.told names spells;
  behind = λ names.
      behind_more names (standing names c.loop-s.scope c.args.around.now) _ c.args.row.now c.loop-s.s-index c.s-item.result (omega arith) c.s-item.is (c.in_ok-next_rules.ensures.scope names)
      ∙ c.loop-s.invariant.behind names;
  all = c.in_ok-next_rules.ensures.all ∙ c.loop-s.invariant.all;
}

pub statement_rules-returns-in-Block-clause-noted : goal.statement_rules-returns-in-Block-clause-noted
statement_rules-returns-in-Block-clause-noted t c = on_ok_weaker c.block_rules.result (λ h names spells.
    walk_block names (standing names c.args.scope.now c.args.around.now) (first_of c.args.first.now) _ c.args.s.now _ _ _ c.in-Block.is c.deref.ensures.value (h names spells)) c.block_rules.ensures.noted

pub statement_rules-returns-in_ok-statement_rules-in-If-clause-noted : goal.statement_rules-returns-in_ok-statement_rules-in-If-clause-noted
statement_rules-returns-in_ok-statement_rules-in-If-clause-noted t c = on_ok_weaker c.maybe_rules.result (λ h names spells.
    let w = standing names c.args.scope.now c.args.around.now in
    walk_if names w _ _ (first_of c.args.first.now) _ _ _ c.args.s.now _ _ _ _ _ (subst (λ t. c.args.s.now ≡ T.If c.in-If.place t c.in-If.yes c.in-If.no) (sym c.expr.ensures) c.in-If.is) c.deref-in-If.ensures (c.standing.ensures.stands names) (ap (in_scope w) (c.in_ok-statement_rules-in-If.ensures.scope names))
    (c.in_ok-test_rules-in-If.ensures names (subst (λ t. Spells t names) (sym c.standing.ensures.named) spells)) (c.in_ok-statement_rules-in-If.ensures.noted names spells) (h names spells)) c.maybe_rules.ensures.noted

pub statement_rules-returns-in_ok-statement_rules-in-If-clause-scope : goal.statement_rules-returns-in_ok-statement_rules-in-If-clause-scope
statement_rules-returns-in_ok-statement_rules-in-If-clause-scope t c = on_ok_weaker c.maybe_rules.result (λ h names. h names ∙ c.in_ok-statement_rules-in-If.ensures.scope names) c.maybe_rules.ensures.scope

pub statement_rules-returns-in_ok-test_rules-in-While-clause-noted : goal.statement_rules-returns-in_ok-test_rules-in-While-clause-noted
statement_rules-returns-in_ok-test_rules-in-While-clause-noted t c = on_ok_weaker c.statement_rules-in-While.result (λ h names spells.
    let w = standing names c.args.scope.now c.args.around.now in
    walk_while names w _ (first_of c.args.first.now) _ _ c.args.s.now _ _ _ _ (subst (λ t. c.args.s.now ≡ T.While c.in-While.place t c.in-While.body) (sym c.expr-in-While.ensures) c.in-While.is) c.deref-in-While.ensures (c.standing-in-While.ensures.stands names)
    (c.in_ok-test_rules-in-While.ensures names (subst (λ t. Spells t names) (sym c.standing-in-While.ensures.named) spells)) (h names spells)) c.statement_rules-in-While.ensures.noted

pub statement_rules-returns-in_ok-statement_rules-in-DoWhile-clause-noted : goal.statement_rules-returns-in_ok-statement_rules-in-DoWhile-clause-noted
statement_rules-returns-in_ok-statement_rules-in-DoWhile-clause-noted t c = on_ok_weaker c.test_rules-in-DoWhile.result (λ h names spells.
    let w = standing names c.args.scope.now c.args.around.now in
    walk_do names w _ (first_of c.args.first.now) _ _ c.args.s.now _ _ _ _ (subst (λ t. c.args.s.now ≡ T.DoWhile c.in-DoWhile.place c.in-DoWhile.body t) (sym c.expr-in-DoWhile.ensures) c.in-DoWhile.is) c.deref-in-DoWhile.ensures
    (c.standing-in-DoWhile.ensures.stands names ∙ ap (in_scope w) (c.in_ok-statement_rules-in-DoWhile.ensures.scope names))
    (c.in_ok-statement_rules-in-DoWhile.ensures.noted names spells) (h names (subst (λ t. Spells t names) (sym c.standing-in-DoWhile.ensures.named) spells))) c.test_rules-in-DoWhile.ensures

pub for_rules-returns-in_ok-statement_rules-in-For-clause-noted : goal.for_rules-returns-in_ok-statement_rules-in-For-clause-noted
for_rules-returns-in_ok-statement_rules-in-For-clause-noted t c = λ names spells.
    let w = standing names c.args.scope.now c.args.around.now in
    walk_for names w _ _ _ _ (first_of c.args.first.now) _ _ _ _ c.args.s.now _ _ _ _ _ _ _ c.in-For.is c.deref.ensures.value c.deref-in-For.ensures
    (c.in_ok-enter_block-in-For.ensures.ok names) (c.in_ok-row_rules-in-For.ensures.scope names) (c.standing.ensures.stands names) (c.in_ok-maybe_rules-in-For.ensures.scope names)
    (c.in_ok-row_rules-in-For.ensures.noted names spells) (c.in_ok-maybe_test_rules-in-For.ensures names (subst (λ t. Spells t names) (sym c.standing.ensures.named) spells))
    (c.in_ok-maybe_rules-in-For.ensures.noted names spells) (c.in_ok-statement_rules-in-For.ensures.noted names spells)

pub for_rules-returns-in_ok-statement_rules-in-For-clause-scope : goal.for_rules-returns-in_ok-statement_rules-in-For-clause-scope
for_rules-returns-in_ok-statement_rules-in-For-clause-scope t c = λ names.
    c.leave_block.ensures.scope names
    ∙ ap without_block (c.in_ok-statement_rules-in-For.ensures.scope names ∙ c.in_ok-maybe_rules-in-For.ensures.scope names)
    ∙ walk_left (standing names c.args.scope.now c.args.around.now) (located_list names c.deref.result.now) _ _ (c.in_ok-enter_block-in-For.ensures.ok names) (c.in_ok-row_rules-in-For.ensures.scope names)
