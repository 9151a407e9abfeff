use Rattle.std.proofs.Common.{[], ap, sym, Err, map, string_bytes}
use Rattle.cpc_base.proofs.Pieces.{append_known-nil}
use Rattle.cpc_cli_command.specs.Commands.{asked}
use Rattle.cpc_cli_command.proofs.BoundLemmas.{bounded_is}
use Rattle.cpc_cli.specs.Answer.{misused, starved, performed}
use Rattle.cpc_cli.specs.Inputs.{labels}
use Rattle.cpc_cli.proofs.TopLemmas.{line_named}
use Rattle.cpc_cli.specs.Asked.{is_early}
use Rattle.cpc_cli.proofs.AskedLemmas.{asks_named, asks_nothing}
use Rattle.cpc_cli.proofs.top.follow.Goals as goal

pub returns-in-Ok-clause-ended : goal.returns-in-Ok-clause-ended
returns-in-Ok-clause-ended g c =
    let ended = c.perform.ensures.ended in
    (ended.0, ended.1, performed (asked c.in-Ok.command) c.in-Ok.ensures.command ended.2)

pub returns-in-Ok-clause-line : goal.returns-in-Ok-clause-line
returns-in-Ok-clause-line g c = line_named (map string_bytes c.args.words.now) (asked c.in-Ok.command) (labels c.inputs_of.result) c.in-Ok.ensures.command c.inputs_of.ensures c.perform.result

pub returns-in-Err-Memory-clause-ended : goal.returns-in-Err-Memory-clause-ended
returns-in-Err-Memory-clause-ended g c = ([], sym (append_known-nil (g.O.Sink.taken c.args.out.now)), starved c.requires.none)

pub returns-in-Err-Fault-clause-ended : goal.returns-in-Err-Fault-clause-ended
returns-in-Err-Fault-clause-ended g c =
    ([], sym (append_known-nil (g.O.Sink.taken c.args.out.now)), misused (c.in-Err-Fault.ensures.usage c.in-Err-Fault.field-0-0 (ap Err c.in-Err-Fault.field-0-is)) c.requires.none)

pub perform-requires-clause-bounded : goal.perform-requires-clause-bounded
perform-requires-clause-bounded g c = λ κs within. bounded_is (map string_bytes c.args.words.now) (asked c.in-Ok.command) c.in-Ok.ensures.command

pub returns-in-Ok-clause-asked : goal.returns-in-Ok-clause-asked
returns-in-Ok-clause-asked g c =
    asks_named (g.F.Shelf.asked c.args.shelf.now) (g.F.Shelf.asked c.perform.new.shelf) (map string_bytes c.args.words.now) (asked c.in-Ok.command) (is_early c.perform.result) c.in-Ok.ensures.command c.perform.ensures.asked

pub returns-in-Err-Memory-clause-asked : goal.returns-in-Err-Memory-clause-asked
returns-in-Err-Memory-clause-asked g c = asks_nothing (g.F.Shelf.asked c.args.shelf.now) _

pub returns-in-Err-Fault-clause-asked : goal.returns-in-Err-Fault-clause-asked
returns-in-Err-Fault-clause-asked g c = asks_nothing (g.F.Shelf.asked c.args.shelf.now) _
