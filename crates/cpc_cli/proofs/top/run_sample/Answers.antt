use Rattle.std.proofs.Common.{◌≡◌, ◌∙◌, ap, sym, subst, refl, false, [], ◌++◌, length}
use Rattle.std.specs.Io.KnownBytes.{append_known}
use Rattle.cpc_base.proofs.Pieces.{append_known-append, append_known-nil}
use Rattle.cpc_base.specs.Outside.{Rose}
use Rattle.cpc_base.specs.declared.stop.Dialect.TheVariants.{Cpc, Event}
use Rattle.cpc_check.specs.Accepted.{Accepts}
use Rattle.cpc_tree.specs.Locate.{located}
use Rattle.cpc_tree.specs.Located.{bare}
use Rattle.cpc_tree.proofs.Places.{bare_program}
use Rattle.cpc_cli_command.specs.Commands.{Sample, asked_options}
use Rattle.cpc_cli.specs.Answer.{not_begun}
use Rattle.cpc_cli.specs.Command.{length_line, sample_options}
use Rattle.cpc_cli.specs.Ran.{ClosedBy, RanTold}
use Rattle.cpc_cli.specs.declared.answer.End.TheVariants.{Done, Memory}
use Rattle.cpc_cli.proofs.SampleLemmas.{sample_closed, sample_ran, sample_takes, sample_told, sample_unfinished, unfinished}
use Rattle.cpc_cli.proofs.TopLemmas.{no_steps_printed, rose_earlier, sample_refused}
use Rattle.cpc_cli.specs.Asked.{is_early}
use Rattle.cpc_cli.proofs.AskedLemmas.{asks_none, asks_nothing}
use Rattle.cpc_cli.proofs.top.run_sample.Goals as goal

pub run_told-requires-clause-fresh : goal.run_told-requires-clause-fresh
run_told-requires-clause-fresh g c = λ κs within. no_steps_printed (located c.in-Ok-translated_text.program.program) c.translated_text.new.report c.in-Ok-translated_text.ensures.printed

pub returns-in-Err-clause-ended : goal.returns-in-Err-clause-ended
returns-in-Err-clause-ended g c = ([], sym (append_known-nil (g.O.Sink.taken c.args.out.now)), not_begun Memory tt c.requires.none)

pub returns-in-Err-translated_text-clause-ended : goal.returns-in-Err-translated_text-clause-ended
returns-in-Err-translated_text-clause-ended g c =
    let end = c.in-Err-translated_text.end in
    let unread = λ (name : _). Rose (g.F.Shelf.faults c.args.shelf.now name) (g.F.Shelf.faults c.args.shelf.now name) in
    let refused = sample_refused (g.F.Shelf.files c.args.shelf.now) c.args.number c.as_slice-bytes.result.now unread end (c.as_slice-bytes.ensures.value ∙ c.in-Ok.ensures) (c.in-Err-translated_text.ensures.refused end refl) in
    ([], sym (append_known-nil (g.O.Sink.taken c.args.out.now)), not_begun end refused (c.in-Err-translated_text.ensures.none end refl))

pub returns-in-Done-clause-ended : goal.returns-in-Done-clause-ended
returns-in-Done-clause-ended g c =
    let ran = c.run_told.ensures.ended in
    let closed = c.close_sample.ensures.closed in
    let tree = c.in-Ok-translated_text.program.program in
    let q = located tree in
    let report = c.run_told.new.report in
    let unread = λ (name : _). Rose (g.F.Shelf.faults c.args.shelf.now name) (g.F.Shelf.faults c.run_told.new.shelf name) in
    let early = Rose (g.O.Sink.faults c.args.out.now) (g.O.Sink.faults c.run_told.new.out) in
    let now = Rose (g.O.Sink.faults c.args.out.now) (g.O.Sink.faults c.close_sample.new.out) in
    let late = Rose (g.O.Sink.faults c.run_told.new.out) (g.O.Sink.faults c.close_sample.new.out) in
    let is : c.as_slice-bytes.result.now ≡ _ = c.as_slice-bytes.ensures.value ∙ c.in-Ok.ensures in
    let by_end = sample_told _ (g.F.Shelf.files c.args.shelf.now) (asked_options c.sample_options.result) _ (bare q) report unread early ran.0 c.run_told.result (Done c.in-Done.outcome) c.sample_options.ensures (sym (bare_program tree)) c.in-Done.is ran.2 in
    let takes = sample_takes (g.F.Shelf.files c.args.shelf.now) c.args.number c.as_slice-bytes.result.now q c.translated_text.new.report report c.in-Ok-translated_text.ensures.printed c.run_told.ensures.kept is
    c.in-Ok-translated_text.ensures.same in
    let runs = sample_ran _ (g.F.Shelf.files c.args.shelf.now) c.args.number q unread early report takes ran.0 c.in-Done.outcome by_end in
    let line = subst (λ n. ClosedBy (length_line n) c.in-Done.outcome late closed.0 c.close_sample.result) (ap length is) closed.2 in (
      ran.0 ++ closed.0,
      closed.1 ∙ ap (λ t. append_known t closed.0) ran.1 ∙ append_known-append (g.O.Sink.taken c.args.out.now) ran.0 closed.0,
      sample_closed _ (g.F.Shelf.files c.args.shelf.now) c.args.number q unread now report takes late ran.0 closed.0 c.in-Done.outcome c.close_sample.result
          (rose_earlier _ _ _ c.run_told.ensures.later) runs line,
    )

pub returns-clause-ended : goal.returns-clause-ended
returns-clause-ended g c =
    let ran = c.run_told.ensures.ended in
    let tree = c.in-Ok-translated_text.program.program in
    let q = located tree in
    let report = c.run_told.new.report in
    let unread = λ (name : _). Rose (g.F.Shelf.faults c.args.shelf.now name) (g.F.Shelf.faults c.run_told.new.shelf name) in
    let unwritten = Rose (g.O.Sink.faults c.args.out.now) (g.O.Sink.faults c.run_told.new.out) in
    let is : c.as_slice-bytes.result.now ≡ _ = c.as_slice-bytes.ensures.value ∙ c.in-Ok.ensures in
    let told = sample_told _ (g.F.Shelf.files c.args.shelf.now) (asked_options c.sample_options.result) _ (bare q) report unread unwritten ran.0 c.run_told.result c.run_told.result c.sample_options.ensures (sym (bare_program tree)) refl ran.2 in
    let takes = sample_takes (g.F.Shelf.files c.args.shelf.now) c.args.number c.as_slice-bytes.result.now q c.translated_text.new.report report c.in-Ok-translated_text.ensures.printed c.run_told.ensures.kept is
    c.in-Ok-translated_text.ensures.same in
    (ran.0, ran.1, sample_unfinished _ (g.F.Shelf.files c.args.shelf.now) c.args.number q unread unwritten report takes ran.0 c.run_told.result (unfinished c.run_told.result c.in_default.not-Done) told)

pub returns-in-Err-clause-asked : goal.returns-in-Err-clause-asked
returns-in-Err-clause-asked g c = asks_nothing (g.F.Shelf.asked c.args.shelf.now) _

pub returns-in-Err-translated_text-clause-asked : goal.returns-in-Err-translated_text-clause-asked
returns-in-Err-translated_text-clause-asked g c = asks_nothing (g.F.Shelf.asked c.args.shelf.now) _

pub returns-in-Done-clause-asked : goal.returns-in-Done-clause-asked
returns-in-Done-clause-asked g c =
    asks_none (g.F.Shelf.asked c.args.shelf.now) (g.F.Shelf.asked c.run_told.new.shelf) (asked_options c.sample_options.result).history (is_early c.run_told.result) (is_early c.close_sample.result) (Sample c.args.number)
    (ap (λ o. o.history) c.sample_options.ensures) c.run_told.ensures.asked

pub returns-clause-asked : goal.returns-clause-asked
returns-clause-asked g c =
    asks_none (g.F.Shelf.asked c.args.shelf.now) (g.F.Shelf.asked c.run_told.new.shelf) (asked_options c.sample_options.result).history (is_early c.run_told.result) (is_early c.run_told.result) (Sample c.args.number)
    (ap (λ o. o.history) c.sample_options.ensures) c.run_told.ensures.asked
