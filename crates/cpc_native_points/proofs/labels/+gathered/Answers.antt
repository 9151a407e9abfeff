use Rattle.std.proofs.Common.{◌≡◌, ◌+◌, ◌∷◌, take, Some, if◌then◌else◌, bytes_eq, sym, ap, subst, ⊎_elim, ◌∙◌}
use Rattle.cpc_tree.specs.declared.program.Statement.{Statement}
use Rattle.std.proofs.lemmas.List.{take_all}
use Rattle.std.proofs.lemmas.Result.{on_ok_weaker}
use Rattle.cpc_tree.specs.Erase.{list_of, expr_of, stmt_of, maybe_at}
use Rattle.cpc_tree.specs.Points as P
use Rattle.cpc_tree.specs.Syntax as S
use Rattle.cpc_tree.proofs.Nodes.{block_seen, if_seen}
use Rattle.cpc_native_points.specs.Parts.{child}
use Rattle.cpc_native_points.specs.declared.parts.Part.TheVariants as V
use Rattle.cpc_native_points.proofs.Gathering.{Added, grows_added, grows_both, grows_same, gathers_as, gathers_both, gathers_part, gathers_label, row_labelled, HasBody, while_body, do_body, for_body}
use Rattle.cpc_native_points.proofs.Nodes.{label_seen, nth_there}
use Rattle.cpc_native_points.proofs.labels.+gathered.Goals as goal

pub gather-returns-in-Block-clause-led : goal.gather-returns-in-Block-clause-led
gather-returns-in-Block-clause-led t c = on_ok_weaker c.gather_row.result (λ h names apart.
    let s = stmt_of names c.args.s.now in
    let row = list_of names c.deref.result.now in
    let seen : s ≡ S.Block row = block_seen names c.args.s.now _ _ c.in-Block.is ∙ ap (λ xs. S.Block (list_of names xs)) (sym c.deref.ensures.value) in
    gathers_as names c.args.table.now c.gather_row.new.table c.args.at s (λ l. P.labelled_in l row) (λ l. P.labelled l s) (λ l. ap (P.labelled l) (sym seen))
    (h names s apart (λ n. ap (λ e. child e (P.Nth n)) seen))) c.gather_row.ensures.led

pub gather-returns-in_ok-gather_part-in-If-clause-led : goal.gather-returns-in_ok-gather_part-in-If-clause-led
gather-returns-in_ok-gather_part-in-If-clause-led t c = on_ok_weaker c.gather_arm.result (λ h names apart.
    let s = stmt_of names c.args.s.now in
    let yes = stmt_of names c.deref-in-If.result.now in
    let no = maybe_at names c.in-If.no in
    let test = expr_of names c.in-If.test in
    let seen : s ≡ S.If test yes no = if_seen names c.args.s.now _ _ _ _ c.in-If.is ∙ ap (λ y. S.If test (stmt_of names y) no) (sym c.deref-in-If.ensures) in
    gathers_as names c.args.table.now c.gather_arm.new.table c.args.at s (λ l. P.or_else (P.path_under P.TheYes (P.labelled l yes)) (P.path_under P.TheNo (P.labelled_arm l no))) (λ l. P.labelled l s) (λ l. ap (P.labelled l) (sym seen))
    (gathers_both names c.args.table.now c.gather_part.new.table c.gather_arm.new.table c.args.at s (λ l. P.path_under P.TheYes (P.labelled l yes)) (λ l. P.path_under P.TheNo (P.labelled_arm l no))
    c.in_ok-gather_part-in-If.ensures.kept (c.in_ok-gather_part-in-If.ensures.led names s apart (ap (λ e. child e P.TheYes) seen)) (h names s apart (ap (λ e. child e P.TheNo) seen)))) c.gather_arm.ensures.led

pub gather-returns-in-Label-clause-led : goal.gather-returns-in-Label-clause-led
gather-returns-in-Label-clause-led t c = on_ok_weaker c.gather_behind.result (λ h names apart.
    let s = stmt_of names c.args.s.now in
    let label = names c.in-Label.label.name in
    let inner = stmt_of names c.deref-in-Label.result.now in
    let seen : s ≡ S.Label label inner = label_seen names c.args.s.now _ _ c.in-Label.is ∙ ap (λ y. S.Label label (stmt_of names y)) (sym c.deref-in-Label.ensures) in
    gathers_as names c.args.table.now c.gather_behind.new.table c.args.at s (λ l. if bytes_eq label l then Some (P.TheBody ∷ P.enter inner) else P.path_under P.TheBody (P.labelled l inner)) (λ l. P.labelled l s) (λ l. ap (P.labelled l) (sym seen))
    (h names s apart (ap (λ e. child e P.TheBody) seen))) c.gather_behind.ensures.led

pub gather-returns-in-While-clause-led : goal.gather-returns-in-While-clause-led
gather-returns-in-While-clause-led t c = on_ok_weaker c.gather_part-in-While.result (λ h names apart.
    let s = c.args.s.now in
    let inner = c.deref-in-While.result.now in
    let H : Statement → Type 0 = HasBody names s in
    let w : HasBody names s inner = subst H (sym c.deref-in-While.ensures) (⊎_elim (λ w. while_body names s w.0 w.1 _ w.2) (⊎_elim (λ w. do_body names s w.0 _ w.1 w.2) (λ w. for_body names s w.0 w.1 w.2 w.3 _ w.4)) c.in-While.is) in
    gathers_as names c.args.table.now c.gather_part-in-While.new.table c.args.at (stmt_of names s) (λ l. P.path_under P.TheBody (P.labelled l (stmt_of names inner))) (λ l. P.labelled l (stmt_of names s)) w.labels
    (h names (stmt_of names s) apart w.there)) c.gather_part-in-While.ensures.led

pub gather_part-returns-clause-kept : goal.gather_part-returns-clause-kept
gather_part-returns-clause-kept t c = on_ok_weaker c.gather.result (λ h.
    grows_both c.args.table.now c.add.new.self c.gather.new.table (grows_added c.args.table.now c.add.new.self c.args.part c.args.at c.in_ok-number.number
    (record { number = c.in_ok-number.ensures.number; nodes = c.in_ok-number.ensures.nodes; places = c.in_ok-number.ensures.places })) h) c.gather.ensures.kept

pub gather_part-returns-clause-led : goal.gather_part-returns-clause-led
gather_part-returns-clause-led t c = on_ok_weaker c.gather.result (λ h names around apart is.
    gathers_part names c.args.table.now c.add.new.self c.gather.new.table c.args.part c.args.at c.in_ok-number.number around (stmt_of names c.args.s.now) (λ l. P.labelled l (stmt_of names c.args.s.now)) is
    (record { number = c.in_ok-number.ensures.number; nodes = c.in_ok-number.ensures.nodes; places = c.in_ok-number.ensures.places }) (h names apart)) c.gather.ensures.led

pub gather_behind-returns-clause-kept : goal.gather_behind-returns-clause-kept
gather_behind-returns-clause-kept t c = on_ok_weaker c.gather.result (λ h.
    let added : Added c.args.table.now c.add.new.self V.Body c.args.at c.in_ok-node.node = record { number = c.in_ok-node.ensures.number; nodes = c.in_ok-node.ensures.nodes; places = c.in_ok-node.ensures.places } in
    grows_both c.args.table.now c.put.new.self c.gather.new.table
    (grows_both c.args.table.now c.add.new.self c.put.new.self (grows_added c.args.table.now c.add.new.self V.Body c.args.at c.in_ok-node.node added) (grows_same c.add.new.self c.put.new.self c.in_ok-put.ensures.nodes)) h) c.gather.ensures.kept

pub gather_behind-returns-clause-led : goal.gather_behind-returns-clause-led
gather_behind-returns-clause-led t c = on_ok_weaker c.gather.result (λ h names around apart is.
    gathers_label names apart c.args.table.now c.add.new.self c.put.new.self c.gather.new.table c.args.label c.args.at c.in_ok-node.node around (stmt_of names c.args.inner.now) is
    (record { number = c.in_ok-node.ensures.number; nodes = c.in_ok-node.ensures.nodes; places = c.in_ok-node.ensures.places })
    (record { nodes = c.in_ok-put.ensures.nodes; places = c.in_ok-put.ensures.places }) (h names apart)) c.gather.ensures.led

pub gather_row-loop-n-preserved : goal.gather_row-loop-n-preserved
gather_row-loop-n-preserved t c = record {
  kept = grows_both c.args.table.now c.loop-n.table c.gather_part.new.table c.loop-n.invariant.kept c.in_ok-gather_part.ensures.kept;
  led = λ names around apart rows.
      let l = c.loop-n in
      let x = c.index-row-n.result in
      let here = rows l.n ∙ nth_there names c.args.row.now l.n x c.loop-n-test.true c.index-row-n.is in
      gathers_as names c.args.table.now c.gather_part.new.table c.args.at around (λ y. P.or_else (P.labelled_in y (list_of names (take l.n c.args.row.now))) (P.path_under (P.Nth l.n) (P.labelled y (stmt_of names x))))
      (λ y. P.labelled_in y (list_of names (take (l.n + 1) c.args.row.now)))
      (λ y. sym (row_labelled names y c.args.row.now l.n x c.loop-n-test.true c.index-row-n.is))
      (gathers_both names c.args.table.now l.table c.gather_part.new.table c.args.at around (λ y. P.labelled_in y (list_of names (take l.n c.args.row.now))) (λ y. P.path_under (P.Nth l.n) (P.labelled y (stmt_of names x)))
      l.invariant.kept (l.invariant.led names around apart rows) (c.in_ok-gather_part.ensures.led names around apart here));
}

pub gather_row-returns-clause-led : goal.gather_row-returns-clause-led
gather_row-returns-clause-led t c = λ names around apart rows.
    let l = c.loop-n in
    gathers_as names c.args.table.now l.table c.args.at around (λ y. P.labelled_in y (list_of names (take l.n c.args.row.now))) (λ y. P.labelled_in y (list_of names c.args.row.now))
    (λ y. ap (λ xs. P.labelled_in y (list_of names xs)) (take_all l.n c.args.row.now c.loop-n-test.false)) (l.invariant.led names around apart rows)
