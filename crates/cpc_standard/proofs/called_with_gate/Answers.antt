use Rattle.std.proofs.Common.{map, string_bytes, subst}
use Rattle.cpc_hosts.specs.Standard.{StandardAnswers}
use Rattle.cpc_cli.specs.Reports.{Wrote}
use Rattle.cpc_cli.specs.Answer.{Answer, Counts, rises}
use Rattle.cpc_cli.specs.Command.{host_of}
use Rattle.cpc_standard.proofs.called_with_gate.Goals as goal

-- the table that was made has the names of the standard one
pub returns-clause-answer : goal.returns-clause-answer
returns-clause-answer g c =
    let made = c.cpc_main-report in
    let before : Counts = record { shelf = g.F.Shelf.faults c.args.shelf.now; asked = g.F.Shelf.asked c.args.shelf.now; out = g.O.Sink.faults c.args.out.now; err = g.E.Sink.faults c.args.err.now } in
    let now : Counts = record { shelf = g.F.Shelf.faults made.new.shelf; asked = g.F.Shelf.asked made.new.shelf; out = g.O.Sink.faults made.new.out; err = g.E.Sink.faults made.new.err } in
    subst (λ there. Wrote (g.O.Sink.taken c.args.out.now) (g.O.Sink.taken made.new.out) (λ o. Wrote (g.E.Sink.taken c.args.err.now) (g.E.Sink.taken made.new.err) (λ e.
    Answer (map string_bytes c.args.words.now) (host_of there StandardAnswers) (g.F.Shelf.files c.args.shelf.now) (rises before now) made.result o e))) c.in_ok-hosts.ensures.names made.ensures.answer
