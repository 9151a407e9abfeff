use Rattle.std.proofs.Common.{◌∙◌, sym, subst, refl, []}
use Rattle.cpc_base.proofs.Pieces.{append_known-nil}
use Rattle.cpc_base.specs.Outside.{Rose}
use Rattle.cpc_tree.specs.Locate.{located}
use Rattle.cpc_tree.specs.Located.{bare}
use Rattle.cpc_tree.proofs.Places.{bare_program}
use Rattle.cpc_cli_command.specs.Commands.{Run, asked_options}
use Rattle.cpc_cli.specs.Answer.{not_begun}
use Rattle.cpc_cli.specs.Command.{by_run}
use Rattle.cpc_cli.specs.Ran.{RanTold}
use Rattle.cpc_cli.proofs.TopLemmas.{no_steps_printed, rose_earlier, run_ended, run_takes, told_as, told_earlier}
use Rattle.cpc_cli.specs.Asked.{is_early}
use Rattle.cpc_cli.proofs.AskedLemmas.{asks_both, asks_text}
use Rattle.cpc_cli.proofs.top.run_file.Goals as goal

pub run_told-requires-clause-fresh : goal.run_told-requires-clause-fresh
run_told-requires-clause-fresh g c = λ κs within. no_steps_printed (located c.in-Ok.program.program) c.translated.new.report c.in-Ok.ensures.printed

pub returns-in-Ok-clause-ended : goal.returns-in-Ok-clause-ended
returns-in-Ok-clause-ended g c =
    let ran = c.run_told.ensures.ended in
    let options = asked_options c.args.options in
    let late = λ (name : _). Rose (g.F.Shelf.faults c.translated.new.shelf name) (g.F.Shelf.faults c.run_told.new.shelf name) in
    let early = λ (name : _). Rose (g.F.Shelf.faults c.args.shelf.now name) (g.F.Shelf.faults c.run_told.new.shelf name) in
    let unwritten = Rose (g.O.Sink.faults c.args.out.now) (g.O.Sink.faults c.run_told.new.out) in
    let new = c.run_told.new.report in
    let q = located c.in-Ok.program.program in
    let by_files = told_as _ (g.F.Shelf.files c.args.shelf.now) (g.F.Shelf.files c.translated.new.shelf) _ (bare q) options c.args.text new late unwritten ran.0 c.run_told.result c.translated.ensures.stays (sym (bare_program c.in-Ok.program.program)) ran.2 in
    let ended = told_earlier _ (g.F.Shelf.files c.args.shelf.now) (bare q) options c.args.text new late early unwritten ran.0 (λ name. rose_earlier _ _ _ (c.translated.ensures.later name)) c.run_told.result by_files in
    let takes = run_takes (g.F.Shelf.files c.args.shelf.now) c.args.file.now options c.args.text q c.translated.new.report new c.in-Ok.ensures.printed c.run_told.ensures.kept c.in-Ok.ensures.same in
    (ran.0, ran.1, run_ended _ _ _ options c.args.text (by_run c.args.file.now options c.args.text) q early unwritten new ran.0 takes c.run_told.result ended)

pub returns-in-Err-clause-ended : goal.returns-in-Err-clause-ended
returns-in-Err-clause-ended g c =
    ([], sym (append_known-nil (g.O.Sink.taken c.args.out.now)), not_begun c.in-Err.end (c.in-Err.ensures.refused c.in-Err.end refl) (c.in-Err.ensures.none c.in-Err.end refl))

pub returns-in-Ok-clause-asked : goal.returns-in-Ok-clause-asked
returns-in-Ok-clause-asked g c =
    asks_both (g.F.Shelf.asked c.args.shelf.now) (g.F.Shelf.asked c.translated.new.shelf) (g.F.Shelf.asked c.run_told.new.shelf) (Run c.args.file.now (asked_options c.args.options) c.args.text) c.args.file.now (is_early c.run_told.result) refl
    c.translated.ensures.asked c.run_told.ensures.asked

pub returns-in-Err-clause-asked : goal.returns-in-Err-clause-asked
returns-in-Err-clause-asked g c =
    asks_text (g.F.Shelf.asked c.args.shelf.now) (g.F.Shelf.asked c.translated.new.shelf) (Run c.args.file.now (asked_options c.args.options) c.args.text) c.args.file.now (is_early c.in-Err.end) refl c.translated.ensures.asked
