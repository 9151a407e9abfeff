use Rattle.std.proofs.Common.{◌+◌, max, refl, sym, ap, ◌∙◌, arith}
use Rattle.std.specs.Option.{option_map}
use Rattle.cpc_tree.specs.Locate.{located_expr}
use Rattle.cpc_parser_types.specs.Views.{placed}
use Rattle.cpc_parser_types.proofs.Giving.{err_through}
use Rattle.cpc_parser_expressions.proofs.Stages.{on_read}
use Rattle.cpc_parser_statements.specs.CodeViews.{class_seen, seen}
use Rattle.cpc_parser_statements.proofs.SimpleSteps.{deep_at}
use Rattle.cpc_parser_statements.proofs.StmtSteps.{fault_at, statement_none, statement_deep, statement_simple, statement_in, labelled_deep, labelled_sentence}
use Rattle.cpc_parser_statements.proofs.EntrySteps.{one_local, one_stated, entries_next, entries_deep, entries_end, entries_fail}
use Rattle.cpc_parser_statements.proofs.KindSteps.{read_as, while_steps, do_steps, if_steps, if_alone, if_on, for_steps, label_steps, labelled_unnamed, block_steps}
use Rattle.std.proofs.lemmas.Result.{err_from_is_err_and}
use Rattle.cpc_parser_statements.proofs.statement.+statement.Goals as goal

pub statement-returns-in_default-clause-gives : goal.statement-returns-in_default-clause-gives
statement-returns-in_default-clause-gives t c = λ names. rw c.fault.ensures
    (fault_at names c.args.tokens.now _ (statement_none c.args.depth (placed names c.args.tokens.now) c.requires (sym (c.class_of.ensures names) ∙ ap (option_map class_seen) c.in_default.is)))

pub statement-returns-then-depth-least-clause-gives : goal.statement-returns-then-depth-least-clause-gives
statement-returns-then-depth-least-clause-gives t c = λ names. rw c.deep.ensures
    (deep_at names c.args.tokens.now _ (statement_deep c.args.depth (placed names c.args.tokens.now) (class_seen c.in-Some.class) c.requires (sym (c.class_of.ensures names) ∙ ap (option_map class_seen) c.in-Some.is) (omega (arith, c.least.ensures, c.if-depth-least.true))))

pub statement-returns-then-is_sentence-clause-gives : goal.statement-returns-then-is_sentence-clause-gives
statement-returns-then-is_sentence-clause-gives t c = λ names. rw (statement_simple c.args.depth (placed names c.args.tokens.now) (class_seen c.in-Some.class) c.requires (sym (c.class_of.ensures names) ∙ ap (option_map class_seen) c.in-Some.is) (sym c.is_sentence.ensures ∙ c.if-is_sentence.true)) (c.labelled.ensures.gives names)

pub statement-returns-clause-gives : goal.statement-returns-clause-gives
statement-returns-clause-gives t c = λ names. rw (statement_in names c.args.depth c.args.tokens.now c.in-Some-split_first.token.now c.in-Some-split_first.rest.now (class_seen c.in-Some.class) c.in-Some-split_first.ensures.cases.0 c.requires
    (sym (c.class_of.ensures names) ∙ ap (option_map class_seen) c.in-Some.is) (omega (arith, c.least.ensures, c.if-depth-least.false)) (sym c.is_sentence.ensures ∙ c.if-is_sentence.false)) (c.inside.ensures.gives names)

pub entries-entries-preserved : goal.entries-entries-preserved
entries-entries-preserved t c = (
  λ names. rw c.deeper-nest.ensures (entries_next c.args.room (seen names c.entries.all.items) (seen names c.in_ok-more.more.items) c.entries.nest c.in_ok-more.other (placed names c.entries.rest.now) (placed names c.in_ok-more.behind.now) (placed names c.args.tokens.now)
      (omega (arith, c.if-room-eq0.false)) c.entries.invariant.1 (sym (c.begins_entry.ensures names) ∙ c.entries-test.true) (c.in_ok-more.ensures.gives names) (c.entries.invariant.0 names)),
  omega (arith, c.deeper-nest.ensures, c.entries.invariant.1, c.in_ok-more.ensures.nest),
  omega (arith, c.in_ok-more.ensures.shorter, c.entries.invariant.2),
)

pub entries-returns-clause-gives : goal.entries-returns-clause-gives
entries-returns-clause-gives t c = λ names. entries_end c.args.room (seen names c.entries.all.items) c.entries.nest (placed names c.entries.rest.now) (placed names c.args.tokens.now) (sym (c.begins_entry.ensures names) ∙ c.entries-test.false) (c.entries.invariant.0 names)

pub entries-returns-then-room-eq0-clause-gives : goal.entries-returns-then-room-eq0-clause-gives
entries-returns-then-room-eq0-clause-gives t c = λ names. rw c.deep.ensures
    (deep_at names c.entries.rest.now _ (entries_deep c.args.room (seen names c.entries.all.items) c.entries.nest (placed names c.entries.rest.now) (placed names c.args.tokens.now) (omega (arith, c.if-room-eq0.true)) (sym (c.begins_entry.ensures names) ∙ c.entries-test.true) (c.entries.invariant.0 names)))

pub entries-returns-in_err-more-clause-gives : goal.entries-returns-in_err-more-clause-gives
entries-returns-in_err-more-clause-gives t c = λ names.
    let p = err_from_is_err_and c.from_residual.result c.from_residual.ensures.1 in
    rw (p.1, p.2) (entries_fail c.in_err-more.field-0.0 c.args.room (seen names c.entries.all.items) c.entries.nest (placed names c.entries.rest.now) (placed names c.args.tokens.now) (omega (arith, c.if-room-eq0.false)) c.entries.invariant.1
    (sym (c.begins_entry.ensures names) ∙ c.entries-test.true) (c.in_err-more.ensures.gives names) (c.entries.invariant.0 names))

pub entry-returns-then-begins_base-clause-gives : goal.entry-returns-then-begins_base-clause-gives
entry-returns-then-begins_base-clause-gives t c = λ names. rw (one_local (seen names c.args.all.items) c.args.room (placed names c.args.tokens.now) c.requires (sym (c.begins_base.ensures names) ∙ c.if-begins_base.true)) (c.declaration.ensures.gives names)

pub entry-returns-in_err-statement-clause-gives : goal.entry-returns-in_err-statement-clause-gives
entry-returns-in_err-statement-clause-gives t c = λ names.
    err_through _ c.from_residual.result c.in_err-statement.field-0.0 _ _ _ c.from_residual.ensures.1 (c.in_err-statement.ensures.gives names)
    (one_stated (seen names c.args.all.items) c.args.room (placed names c.args.tokens.now) (sym (c.begins_base.ensures names) ∙ c.if-begins_base.false))

pub braced-returns-in_err-inner-clause-gives : goal.braced-returns-in_err-inner-clause-gives
braced-returns-in_err-inner-clause-gives t c = λ names.
    err_through _ c.from_residual.result c.in_err-inner.field-0.0 _ _ _ c.from_residual.ensures.1 (c.in_err-inner.ensures.gives names) (block_steps c.args.place c.args.room (placed names c.args.tokens.now))

pub braced-returns-in_err-rest-clause-gives : goal.braced-returns-in_err-rest-clause-gives
braced-returns-in_err-rest-clause-gives t c = λ names.
    let a = on_read _ _ _ _ (block_steps c.args.place c.args.room (placed names c.args.tokens.now)) (c.in_ok-inner.ensures.gives names) in
    err_through _ c.from_residual-in_err-rest.result c.in_err-rest.field-0.0 _ _ _ c.from_residual-in_err-rest.ensures.1 (c.in_err-rest.ensures.gives names) a

pub braced-returns-clause-gives : goal.braced-returns-clause-gives
braced-returns-clause-gives t c = λ names.
    let a = on_read _ _ _ _ (block_steps c.args.place c.args.room (placed names c.args.tokens.now)) (c.in_ok-inner.ensures.gives names) in
    read_as _ _ _ _ _ _ (on_read _ _ _ _ a (c.in_ok-rest.ensures.gives names)) (c.block.ensures names) refl

pub labelled-returns-then-begins_name-clause-gives : goal.labelled-returns-then-begins_name-clause-gives
labelled-returns-then-begins_name-clause-gives t c = λ names. rw c.deep.ensures
    (deep_at names c.args.tokens.now _ (labelled_deep c.args.depth (placed names c.args.tokens.now) (sym (c.begins_name.ensures names) ∙ c.if-begins_name.true) (omega (arith, c.if-depth-lt2.true))))

pub labelled-returns-then-depth-lt2-clause-gives : goal.labelled-returns-then-depth-lt2-clause-gives
labelled-returns-then-depth-lt2-clause-gives t c = λ names. rw (labelled_unnamed c.args.depth (placed names c.args.tokens.now) (sym (c.begins_name.ensures names) ∙ c.if-begins_name.false)) (c.sentence.ensures.gives names)

pub labelled-returns-then-not-begins_label-clause-gives : goal.labelled-returns-then-not-begins_label-clause-gives
labelled-returns-then-not-begins_label-clause-gives t c = λ names. rw (labelled_sentence c.args.depth (placed names c.args.tokens.now) (sym (c.begins_label.ensures names) ∙ c.if-not-begins_label.true) (λ e. omega (arith, c.if-depth-lt2.false))) (c.sentence-then-not-begins_label.ensures.gives names)

pub labelled-returns-in_err-label-clause-gives : goal.labelled-returns-in_err-label-clause-gives
labelled-returns-in_err-label-clause-gives t c = λ names.
    err_through _ c.from_residual.result c.in_err-label.field-0.0 _ _ _ c.from_residual.ensures.1 (c.in_err-label.ensures.gives names)
    (label_steps c.args.depth (placed names c.args.tokens.now) (sym (c.begins_label.ensures names) ∙ c.if-not-begins_label.false) (omega (arith, c.if-depth-lt2.false)))

pub labelled-returns-in_err-rest-clause-gives : goal.labelled-returns-in_err-rest-clause-gives
labelled-returns-in_err-rest-clause-gives t c = λ names.
    let a = on_read _ _ _ _ (label_steps c.args.depth (placed names c.args.tokens.now) (sym (c.begins_label.ensures names) ∙ c.if-not-begins_label.false) (omega (arith, c.if-depth-lt2.false))) (c.in_ok-label.ensures.gives names) in
    err_through _ c.from_residual-in_err-rest.result c.in_err-rest.field-0.0 _ _ _ c.from_residual-in_err-rest.ensures.1 (c.in_err-rest.ensures.gives names) a

pub labelled-returns-in_err-inner-clause-gives : goal.labelled-returns-in_err-inner-clause-gives
labelled-returns-in_err-inner-clause-gives t c = λ names.
    let a = on_read _ _ _ _ (label_steps c.args.depth (placed names c.args.tokens.now) (sym (c.begins_label.ensures names) ∙ c.if-not-begins_label.false) (omega (arith, c.if-depth-lt2.false))) (c.in_ok-label.ensures.gives names) in
    let b = on_read _ _ _ _ a (c.in_ok-rest.ensures.gives names) in
    err_through _ c.from_residual-in_err-inner.result c.in_err-inner.field-0.0 _ _ _ c.from_residual-in_err-inner.ensures.1 (c.in_err-inner.ensures.gives names) b

pub labelled-returns-clause-gives : goal.labelled-returns-clause-gives
labelled-returns-clause-gives t c = λ names.
    let a = on_read _ _ _ _ (label_steps c.args.depth (placed names c.args.tokens.now) (sym (c.begins_label.ensures names) ∙ c.if-not-begins_label.false) (omega (arith, c.if-depth-lt2.false))) (c.in_ok-label.ensures.gives names) in
    let b = on_read _ _ _ _ a (c.in_ok-rest.ensures.gives names) in
    read_as _ _ _ _ _ _ (on_read _ _ _ _ b (c.in_ok-inner.ensures.gives names)) (c.labels.ensures names) (omega arith)

pub inside-returns-in-Block-clause-gives : goal.inside-returns-in-Block-clause-gives
inside-returns-in-Block-clause-gives t c = λ names. rw c.in-Block.is (c.braced.ensures.gives names)

pub inside-returns-in-If-clause-gives : goal.inside-returns-in-If-clause-gives
inside-returns-in-If-clause-gives t c = λ names. rw c.in-If.is (c.conditional.ensures.gives names)

pub inside-returns-in-While-clause-gives : goal.inside-returns-in-While-clause-gives
inside-returns-in-While-clause-gives t c = λ names. rw c.in-While.is (c.while_loop.ensures.gives names)

pub inside-returns-in-Do-clause-gives : goal.inside-returns-in-Do-clause-gives
inside-returns-in-Do-clause-gives t c = λ names. rw c.in-Do.is (c.do_loop.ensures.gives names)

pub inside-returns-in-For-clause-gives : goal.inside-returns-in-For-clause-gives
inside-returns-in-For-clause-gives t c = λ names. rw c.in-For.is (c.for_loop.ensures.gives names)

pub inside-returns-in-Goto-clause-gives : goal.inside-returns-in-Goto-clause-gives
inside-returns-in-Goto-clause-gives t c = λ names. rw c.in-Goto.is (c.goto.ensures.gives names)

pub inside-returns-in-Break-clause-gives : goal.inside-returns-in-Break-clause-gives
inside-returns-in-Break-clause-gives t c = λ names. rw c.in-Break.is (c.broken.ensures.gives names)

pub inside-returns-in-Continue-clause-gives : goal.inside-returns-in-Continue-clause-gives
inside-returns-in-Continue-clause-gives t c = λ names. rw c.in-Continue.is (c.continued.ensures.gives names)

pub inside-returns-in-Return-clause-gives : goal.inside-returns-in-Return-clause-gives
inside-returns-in-Return-clause-gives t c = λ names. rw c.in-Return.is (c.returned.ensures.gives names)

pub inside-returns-in-Spawn-clause-gives : goal.inside-returns-in-Spawn-clause-gives
inside-returns-in-Spawn-clause-gives t c = λ names. rw c.in-Spawn.is (c.spawn.ensures.gives names)

pub inside-returns-in-Empty-clause-gives : goal.inside-returns-in-Empty-clause-gives
inside-returns-in-Empty-clause-gives t c = λ names. rw c.in-Empty.is refl

pub inside-returns-in-Simple-clause-gives : goal.inside-returns-in-Simple-clause-gives
inside-returns-in-Simple-clause-gives t c = λ names. rw (c.in-Simple.is, c.fault.ensures) (fault_at names c.args.tokens.now _ refl)

pub while_loop-returns-in_err-test-clause-gives : goal.while_loop-returns-in_err-test-clause-gives
while_loop-returns-in_err-test-clause-gives t c = λ names.
    err_through _ c.from_residual.result c.in_err-test.field-0.0 _ _ _ c.from_residual.ensures.1 (c.in_err-test.ensures.gives names) (while_steps c.args.place c.args.room (placed names c.args.tokens.now))

pub while_loop-returns-in_err-body-clause-gives : goal.while_loop-returns-in_err-body-clause-gives
while_loop-returns-in_err-body-clause-gives t c = λ names.
    let a = on_read _ _ _ _ (while_steps c.args.place c.args.room (placed names c.args.tokens.now)) (c.in_ok-test.ensures.gives names) in
    err_through _ c.from_residual-in_err-body.result c.in_err-body.field-0.0 _ _ _ c.from_residual-in_err-body.ensures.1 (c.in_err-body.ensures.gives names) a

pub while_loop-returns-clause-gives : goal.while_loop-returns-clause-gives
while_loop-returns-clause-gives t c = λ names.
    let a = on_read _ _ _ _ (while_steps c.args.place c.args.room (placed names c.args.tokens.now)) (c.in_ok-test.ensures.gives names) in
    read_as _ _ _ _ _ _ (on_read _ _ _ _ a (c.in_ok-body.ensures.gives names)) (c.looped-made.ensures names) (ap (λ n. n + 1) c.deeper.ensures)

pub do_loop-returns-in_err-body-clause-gives : goal.do_loop-returns-in_err-body-clause-gives
do_loop-returns-in_err-body-clause-gives t c = λ names.
    err_through _ c.from_residual.result c.in_err-body.field-0.0 _ _ _ c.from_residual.ensures.1 (c.in_err-body.ensures.gives names) (do_steps c.args.place c.args.room (placed names c.args.tokens.now))

pub do_loop-returns-in_err-rest-clause-gives : goal.do_loop-returns-in_err-rest-clause-gives
do_loop-returns-in_err-rest-clause-gives t c = λ names.
    let a = on_read _ _ _ _ (do_steps c.args.place c.args.room (placed names c.args.tokens.now)) (c.in_ok-body.ensures.gives names) in
    err_through _ c.from_residual-in_err-rest.result c.in_err-rest.field-0.0 _ _ _ c.from_residual-in_err-rest.ensures.1 (c.in_err-rest.ensures.gives names) a

pub do_loop-returns-in_err-test-clause-gives : goal.do_loop-returns-in_err-test-clause-gives
do_loop-returns-in_err-test-clause-gives t c = λ names.
    let a = on_read _ _ _ _ (do_steps c.args.place c.args.room (placed names c.args.tokens.now)) (c.in_ok-body.ensures.gives names) in
    let b = on_read _ _ _ _ a (c.in_ok-rest.ensures.gives names) in
    err_through _ c.from_residual-in_err-test.result c.in_err-test.field-0.0 _ _ _ c.from_residual-in_err-test.ensures.1 (c.in_err-test.ensures.gives names) b

pub do_loop-returns-in_err-rest-2-clause-gives : goal.do_loop-returns-in_err-rest-2-clause-gives
do_loop-returns-in_err-rest-2-clause-gives t c = λ names.
    let a = on_read _ _ _ _ (do_steps c.args.place c.args.room (placed names c.args.tokens.now)) (c.in_ok-body.ensures.gives names) in
    let b = on_read _ _ _ _ a (c.in_ok-rest.ensures.gives names) in
    let d = on_read _ _ _ _ b (c.in_ok-test.ensures.gives names) in
    err_through _ c.from_residual-in_err-rest-2.result c.in_err-rest-2.field-0.0 _ _ _ c.from_residual-in_err-rest-2.ensures.1 (c.in_err-rest-2.ensures.gives names) d

pub do_loop-returns-clause-gives : goal.do_loop-returns-clause-gives
do_loop-returns-clause-gives t c = λ names.
    let a = on_read _ _ _ _ (do_steps c.args.place c.args.room (placed names c.args.tokens.now)) (c.in_ok-body.ensures.gives names) in
    let b = on_read _ _ _ _ a (c.in_ok-rest.ensures.gives names) in
    let d = on_read _ _ _ _ b (c.in_ok-test.ensures.gives names) in
    read_as _ _ _ _ _ _ (on_read _ _ _ _ d (c.in_ok-rest-2.ensures.gives names)) (c.until-made.ensures names) (ap (λ n. n + 1) c.deeper.ensures)

pub conditional-returns-in_err-test-clause-gives : goal.conditional-returns-in_err-test-clause-gives
conditional-returns-in_err-test-clause-gives t c = λ names.
    err_through _ c.from_residual.result c.in_err-test.field-0.0 _ _ _ c.from_residual.ensures.1 (c.in_err-test.ensures.gives names) (if_steps c.args.place c.args.room (placed names c.args.tokens.now))

pub conditional-returns-in_err-yes-clause-gives : goal.conditional-returns-in_err-yes-clause-gives
conditional-returns-in_err-yes-clause-gives t c = λ names.
    let a = on_read _ _ _ _ (if_steps c.args.place c.args.room (placed names c.args.tokens.now)) (c.in_ok-test.ensures.gives names) in
    err_through _ c.from_residual-in_err-yes.result c.in_err-yes.field-0.0 _ _ _ c.from_residual-in_err-yes.ensures.1 (c.in_err-yes.ensures.gives names) a

pub conditional-returns-then-not-begins_word-clause-gives : goal.conditional-returns-then-not-begins_word-clause-gives
conditional-returns-then-not-begins_word-clause-gives t c = λ names.
    let a = on_read _ _ _ _ (if_steps c.args.place c.args.room (placed names c.args.tokens.now)) (c.in_ok-test.ensures.gives names) in
    let b = on_read _ _ _ _ a (c.in_ok-yes.ensures.gives names) in
    read_as _ _ _ _ _ _ (if_alone c.args.place c.args.room (located_expr names c.in_ok-test.test, c.in_ok-test.outer, placed names c.in_ok-test.rest.now) _ _ b (sym (c.begins_word.ensures names) ∙ c.if-not-begins_word.true)) (c.branched-made.ensures names) (ap (λ n. n + 1) c.deeper.ensures)

pub conditional-returns-in_err-rest-clause-gives : goal.conditional-returns-in_err-rest-clause-gives
conditional-returns-in_err-rest-clause-gives t c = λ names.
    let a = on_read _ _ _ _ (if_steps c.args.place c.args.room (placed names c.args.tokens.now)) (c.in_ok-test.ensures.gives names) in
    let b = on_read _ _ _ _ a (c.in_ok-yes.ensures.gives names) in
    let d = if_on c.args.place c.args.room (located_expr names c.in_ok-test.test, c.in_ok-test.outer, placed names c.in_ok-test.rest.now) _ _ b (sym (c.begins_word.ensures names) ∙ c.if-not-begins_word.false) in
    err_through _ c.from_residual-in_err-rest.result c.in_err-rest.field-0.0 _ _ _ c.from_residual-in_err-rest.ensures.1 (c.in_err-rest.ensures.gives names) d

pub conditional-returns-in_err-no-clause-gives : goal.conditional-returns-in_err-no-clause-gives
conditional-returns-in_err-no-clause-gives t c = λ names.
    let a = on_read _ _ _ _ (if_steps c.args.place c.args.room (placed names c.args.tokens.now)) (c.in_ok-test.ensures.gives names) in
    let b = on_read _ _ _ _ a (c.in_ok-yes.ensures.gives names) in
    let d = if_on c.args.place c.args.room (located_expr names c.in_ok-test.test, c.in_ok-test.outer, placed names c.in_ok-test.rest.now) _ _ b (sym (c.begins_word.ensures names) ∙ c.if-not-begins_word.false) in
    let e = on_read _ _ _ _ d (c.in_ok-rest.ensures.gives names) in
    err_through _ c.from_residual-in_err-no.result c.in_err-no.field-0.0 _ _ _ c.from_residual-in_err-no.ensures.1 (c.in_err-no.ensures.gives names) e

pub conditional-returns-clause-gives : goal.conditional-returns-clause-gives
conditional-returns-clause-gives t c = λ names.
    let a = on_read _ _ _ _ (if_steps c.args.place c.args.room (placed names c.args.tokens.now)) (c.in_ok-test.ensures.gives names) in
    let b = on_read _ _ _ _ a (c.in_ok-yes.ensures.gives names) in
    let d = if_on c.args.place c.args.room (located_expr names c.in_ok-test.test, c.in_ok-test.outer, placed names c.in_ok-test.rest.now) _ _ b (sym (c.begins_word.ensures names) ∙ c.if-not-begins_word.false) in
    let e = on_read _ _ _ _ d (c.in_ok-rest.ensures.gives names) in
    read_as _ _ _ _ _ _ (on_read _ _ _ _ e (c.in_ok-no.ensures.gives names)) (c.branched-made-2.ensures names) (ap (λ n. n + 1) (c.deeper-3.ensures ∙ ap (λ n. max c.in_ok-test.outer n) c.deeper-2.ensures))

pub for_loop-returns-in_err-rest-clause-gives : goal.for_loop-returns-in_err-rest-clause-gives
for_loop-returns-in_err-rest-clause-gives t c = λ names.
    err_through _ c.from_residual.result c.in_err-rest.field-0.0 _ _ _ c.from_residual.ensures.1 (c.in_err-rest.ensures.gives names) (for_steps c.args.place c.args.room (placed names c.args.tokens.now))

pub for_loop-returns-in_err-first-clause-gives : goal.for_loop-returns-in_err-first-clause-gives
for_loop-returns-in_err-first-clause-gives t c = λ names.
    let a = on_read _ _ _ _ (for_steps c.args.place c.args.room (placed names c.args.tokens.now)) (c.in_ok-rest.ensures.gives names) in
    err_through _ c.from_residual-in_err-first.result c.in_err-first.field-0.0 _ _ _ c.from_residual-in_err-first.ensures.1 (c.in_err-first.ensures.gives names) a

pub for_loop-returns-in_err-test-clause-gives : goal.for_loop-returns-in_err-test-clause-gives
for_loop-returns-in_err-test-clause-gives t c = λ names.
    let a = on_read _ _ _ _ (for_steps c.args.place c.args.room (placed names c.args.tokens.now)) (c.in_ok-rest.ensures.gives names) in
    let b = on_read _ _ _ _ a (c.in_ok-first.ensures.gives names) in
    err_through _ c.from_residual-in_err-test.result c.in_err-test.field-0.0 _ _ _ c.from_residual-in_err-test.ensures.1 (c.in_err-test.ensures.gives names) b

pub for_loop-returns-in_err-step-clause-gives : goal.for_loop-returns-in_err-step-clause-gives
for_loop-returns-in_err-step-clause-gives t c = λ names.
    let a = on_read _ _ _ _ (for_steps c.args.place c.args.room (placed names c.args.tokens.now)) (c.in_ok-rest.ensures.gives names) in
    let b = on_read _ _ _ _ a (c.in_ok-first.ensures.gives names) in
    let d = on_read _ _ _ _ b (c.in_ok-test.ensures.gives names) in
    err_through _ c.from_residual-in_err-step.result c.in_err-step.field-0.0 _ _ _ c.from_residual-in_err-step.ensures.1 (c.in_err-step.ensures.gives names) d

pub for_loop-returns-in_err-body-clause-gives : goal.for_loop-returns-in_err-body-clause-gives
for_loop-returns-in_err-body-clause-gives t c = λ names.
    let a = on_read _ _ _ _ (for_steps c.args.place c.args.room (placed names c.args.tokens.now)) (c.in_ok-rest.ensures.gives names) in
    let b = on_read _ _ _ _ a (c.in_ok-first.ensures.gives names) in
    let d = on_read _ _ _ _ b (c.in_ok-test.ensures.gives names) in
    let e = on_read _ _ _ _ d (c.in_ok-step.ensures.gives names) in
    err_through _ c.from_residual-in_err-body.result c.in_err-body.field-0.0 _ _ _ c.from_residual-in_err-body.ensures.1 (c.in_err-body.ensures.gives names) e

pub for_loop-returns-clause-gives : goal.for_loop-returns-clause-gives
for_loop-returns-clause-gives t c = λ names.
    let a = on_read _ _ _ _ (for_steps c.args.place c.args.room (placed names c.args.tokens.now)) (c.in_ok-rest.ensures.gives names) in
    let b = on_read _ _ _ _ a (c.in_ok-first.ensures.gives names) in
    let d = on_read _ _ _ _ b (c.in_ok-test.ensures.gives names) in
    let e = on_read _ _ _ _ d (c.in_ok-step.ensures.gives names) in
    read_as _ _ _ _ _ _ (on_read _ _ _ _ e (c.in_ok-body.ensures.gives names)) (c.counted-made.ensures names) (ap (λ n. n + 1) (c.deeper-nest.ensures ∙ ap (λ n. max c.in_ok-first.one n) (c.deeper-2.ensures ∙ ap (λ n. max c.in_ok-test.two n) c.deeper.ensures)))

pub inner-returns-in_err-statement-clause-gives : goal.inner-returns-in_err-statement-clause-gives
inner-returns-in_err-statement-clause-gives t c = λ names. let p = err_from_is_err_and c.from_residual.result c.from_residual.ensures.1 in rw (p.1, p.2) (c.in_err-statement.ensures.gives names)
