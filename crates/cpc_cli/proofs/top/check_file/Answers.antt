use Rattle.std.proofs.Common.{false, sym, refl, codes, take, []}
use Rattle.cpc_base.proofs.Pieces.{append_known-nil}
use Rattle.cpc_base.specs.declared.stop.Dialect.TheVariants.{Cpc}
use Rattle.cpc_tree.specs.Locate.{located}
use Rattle.cpc_cli.specs.Answer.{did, not_begun, unwritten_in}
use Rattle.cpc_cli.specs.declared.answer.Outcome.TheVariants.{Accepted}
use Rattle.cpc_cli.proofs.TopLemmas.{accepted_as, is_cut}
use Rattle.cpc_cli_command.specs.Commands.{Check}
use Rattle.cpc_cli.specs.Asked.{is_early}
use Rattle.cpc_cli.proofs.AskedLemmas.{asks_text}
use Rattle.cpc_cli.proofs.top.check_file.Goals as goal

pub returns-in-Err-clause-ended : goal.returns-in-Err-clause-ended
returns-in-Err-clause-ended g c =
    ([], sym (append_known-nil (g.O.Sink.taken c.args.out.now)), not_begun c.in-Err.end (c.in-Err.ensures.refused c.in-Err.end refl) c.requires)

pub returns-in-Ok-clause-ended : goal.returns-in-Ok-clause-ended
returns-in-Ok-clause-ended g c =
    let p = accepted_as (g.F.Shelf.files c.args.shelf.now) Cpc c.args.file.now (located c.in_default.field-0.program) c.in_default.ensures.accepted in
    (codes "accepted\n", c.in-Ok.ensures.all, did Accepted (c.requires.no_run, refl, p))

pub returns-in-Err-write_all-clause-ended : goal.returns-in-Err-write_all-clause-ended
returns-in-Err-write_all-clause-ended g c =
    let wrote = c.in-Err-write_all.ensures.prefix in
    let p = accepted_as (g.F.Shelf.files c.args.shelf.now) Cpc c.args.file.now (located c.in_default.field-0.program) c.in_default.ensures.accepted in
    (take wrote.0 (codes "accepted\n"), wrote.2, unwritten_in c.in-Err-write_all.ensures.cause (c.requires.no_run, is_cut wrote.0 (codes "accepted\n") wrote.1, p))

pub returns-in-Err-clause-asked : goal.returns-in-Err-clause-asked
returns-in-Err-clause-asked g c = asks_text (g.F.Shelf.asked c.args.shelf.now) (g.F.Shelf.asked c.checked.new.shelf) (Check c.args.file.now) c.args.file.now (is_early c.in-Err.end) refl c.checked.ensures.asked

pub returns-in-Ok-clause-asked : goal.returns-in-Ok-clause-asked
returns-in-Ok-clause-asked g c = asks_text (g.F.Shelf.asked c.args.shelf.now) (g.F.Shelf.asked c.checked.new.shelf) (Check c.args.file.now) c.args.file.now false refl c.checked.ensures.asked

pub returns-in-Err-write_all-clause-asked : goal.returns-in-Err-write_all-clause-asked
returns-in-Err-write_all-clause-asked g c = asks_text (g.F.Shelf.asked c.args.shelf.now) (g.F.Shelf.asked c.checked.new.shelf) (Check c.args.file.now) c.args.file.now false refl c.checked.ensures.asked
