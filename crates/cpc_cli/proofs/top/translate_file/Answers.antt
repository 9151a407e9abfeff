use Rattle.std.proofs.Common.{false, sym, subst, refl, take, []}
use Rattle.cpc_base.proofs.Pieces.{append_known-nil}
use Rattle.cpc_tree.specs.Locate.{located}
use Rattle.cpc_cli.specs.Answer.{did, not_begun, unwritten_in}
use Rattle.cpc_run_workers.specs.Reports.{IsCutShort}
use Rattle.cpc_cli.specs.declared.answer.Outcome.TheVariants.{Translated}
use Rattle.cpc_cli.proofs.TopLemmas.{is_cut}
use Rattle.cpc_cli_command.specs.Commands.{Translate}
use Rattle.cpc_cli.specs.Asked.{is_early}
use Rattle.cpc_cli.proofs.AskedLemmas.{asks_text}
use Rattle.cpc_cli.proofs.top.translate_file.Goals as goal

pub returns-in-Err-clause-ended : goal.returns-in-Err-clause-ended
returns-in-Err-clause-ended g c =
    ([], sym (append_known-nil (g.O.Sink.taken c.args.out.now)), not_begun c.in-Err.end (c.in-Err.ensures.refused c.in-Err.end refl) (c.in-Err.ensures.none c.in-Err.end refl))

pub returns-in-Ok-clause-ended : goal.returns-in-Ok-clause-ended
returns-in-Ok-clause-ended g c =
    (c.as_slice.result.now, c.in-Ok.ensures.all, did Translated (located c.in_default.field-0.program, c.in_default.ensures.printed, c.as_slice.ensures.value, c.in_default.ensures.same))

pub returns-in-Err-write_all-clause-ended : goal.returns-in-Err-write_all-clause-ended
returns-in-Err-write_all-clause-ended g c =
    let wrote = c.in-Err-write_all.ensures.prefix in
    let part : IsCutShort (take wrote.0 c.as_slice.result.now) c.translated.new.report.printed.items = subst (IsCutShort (take wrote.0 c.as_slice.result.now)) c.as_slice.ensures.value (is_cut wrote.0 c.as_slice.result.now wrote.1) in
    (take wrote.0 c.as_slice.result.now, wrote.2, unwritten_in c.in-Err-write_all.ensures.cause (located c.in_default.field-0.program, c.in_default.ensures.printed, part, c.in_default.ensures.same))

pub returns-in-Err-clause-asked : goal.returns-in-Err-clause-asked
returns-in-Err-clause-asked g c = asks_text (g.F.Shelf.asked c.args.shelf.now) (g.F.Shelf.asked c.translated.new.shelf) (Translate c.args.file.now) c.args.file.now (is_early c.in-Err.end) refl c.translated.ensures.asked

pub returns-in-Ok-clause-asked : goal.returns-in-Ok-clause-asked
returns-in-Ok-clause-asked g c = asks_text (g.F.Shelf.asked c.args.shelf.now) (g.F.Shelf.asked c.translated.new.shelf) (Translate c.args.file.now) c.args.file.now false refl c.translated.ensures.asked

pub returns-in-Err-write_all-clause-asked : goal.returns-in-Err-write_all-clause-asked
returns-in-Err-write_all-clause-asked g c = asks_text (g.F.Shelf.asked c.args.shelf.now) (g.F.Shelf.asked c.translated.new.shelf) (Translate c.args.file.now) c.args.file.now false refl c.translated.ensures.asked
