use Rattle.std.proofs.Common.{◌∙◌, sym, subst, refl, false, []}
use Rattle.cpc_base.proofs.Pieces.{append_known-nil}
use Rattle.cpc_base.specs.Outside.{Rose}
use Rattle.cpc_tree.specs.Locate.{located}
use Rattle.cpc_tree.specs.Located.{bare}
use Rattle.cpc_tree.proofs.Places.{bare_program}
use Rattle.cpc_cli_command.specs.Commands.{Exec, asked_options}
use Rattle.cpc_cli.specs.Answer.{not_begun}
use Rattle.cpc_cli.specs.Command.{by_exec}
use Rattle.cpc_cli.specs.Ran.{RanTold}
use Rattle.cpc_cli.proofs.TopLemmas.{exec_takes, no_steps_in, rose_earlier, run_ended, told_as, told_earlier}
use Rattle.cpc_cli.specs.Asked.{is_early}
use Rattle.cpc_cli.proofs.AskedLemmas.{asks_both, asks_text}
use Rattle.cpc_cli.proofs.top.exec_file.Goals as goal

pub run_told-requires-clause-fresh : goal.run_told-requires-clause-fresh
run_told-requires-clause-fresh g c = λ κs within. no_steps_in c.args.report.now c.requires.none

pub returns-in-Ok-clause-ended : goal.returns-in-Ok-clause-ended
returns-in-Ok-clause-ended g c =
    let ran = c.run_told.ensures.ended in
    let options = asked_options c.args.options in
    let late = λ (name : _). Rose (g.F.Shelf.faults c.taken.new.shelf name) (g.F.Shelf.faults c.run_told.new.shelf name) in
    let early = λ (name : _). Rose (g.F.Shelf.faults c.args.shelf.now name) (g.F.Shelf.faults c.run_told.new.shelf name) in
    let unwritten = Rose (g.O.Sink.faults c.args.out.now) (g.O.Sink.faults c.run_told.new.out) in
    let new = c.run_told.new.report in
    let q = located c.in-Ok.program.program in
    let by_files = told_as _ (g.F.Shelf.files c.args.shelf.now) (g.F.Shelf.files c.taken.new.shelf) _ (bare q) options false new late unwritten ran.0 c.run_told.result c.taken.ensures.stays (sym (bare_program c.in-Ok.program.program)) ran.2 in
    let ended = told_earlier _ (g.F.Shelf.files c.args.shelf.now) (bare q) options false new late early unwritten ran.0 (λ name. rose_earlier _ _ _ (c.taken.ensures.later name)) c.run_told.result by_files in
    let takes = exec_takes (g.F.Shelf.files c.args.shelf.now) c.args.file.now options q c.args.report.now new c.requires.none.no_run c.run_told.ensures.kept c.in-Ok.ensures.accepted in
    (ran.0, ran.1, run_ended _ _ _ options false (by_exec c.args.file.now options) q early unwritten new ran.0 takes c.run_told.result ended)

pub returns-in-Err-clause-ended : goal.returns-in-Err-clause-ended
returns-in-Err-clause-ended g c =
    ([], sym (append_known-nil (g.O.Sink.taken c.args.out.now)), not_begun c.in-Err.end (c.in-Err.ensures.refused c.in-Err.end refl) c.requires.none)

pub returns-in-Ok-clause-asked : goal.returns-in-Ok-clause-asked
returns-in-Ok-clause-asked g c =
    asks_both (g.F.Shelf.asked c.args.shelf.now) (g.F.Shelf.asked c.taken.new.shelf) (g.F.Shelf.asked c.run_told.new.shelf) (Exec c.args.file.now (asked_options c.args.options)) c.args.file.now (is_early c.run_told.result) refl
    c.taken.ensures.asked c.run_told.ensures.asked

pub returns-in-Err-clause-asked : goal.returns-in-Err-clause-asked
returns-in-Err-clause-asked g c =
    asks_text (g.F.Shelf.asked c.args.shelf.now) (g.F.Shelf.asked c.taken.new.shelf) (Exec c.args.file.now (asked_options c.args.options)) c.args.file.now (is_early c.in-Err.end) refl c.taken.ensures.asked
