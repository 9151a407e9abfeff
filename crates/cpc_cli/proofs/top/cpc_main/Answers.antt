use Rattle.std.proofs.Common.{refl, subst, map, string_bytes, List, ℕ}
use Rattle.cpc_base.specs.Outside.{Rose}
use Rattle.cpc_cli.proofs.AnswerLemmas.{is_end_last}
use Rattle.cpc_cli.proofs.CauseLemmas.{read_cause}
use Rattle.cpc_cli.specs.Inputs.{labels}
use Rattle.cpc_cli.specs.Answer.{Counts, Said, rises, status_of}
use Rattle.cpc_cli.proofs.TopLemmas.{last_line}
use Rattle.cpc_cli.proofs.ExactLemmas.{exact_where_told}
use Rattle.cpc_cli.proofs.AskedLemmas.{asks_last, asks_said}
use Rattle.cpc_cli.proofs.top.cpc_main.Goals as goal

pub returns-clause-answer : goal.returns-clause-answer
returns-clause-answer g c =
    let ended = c.follow-end.ensures.ended in
    let said = c.conclude.ensures.said in
    let last = said.2 in
    let line = last_line (map string_bytes c.args.words.now) (labels c.follow-end.result.0) c.follow-end.result.1 last.0 last.1 c.follow-end.ensures.line in
    let unread = λ (name : List ℕ). Rose (g.F.Shelf.faults c.args.shelf.now name) (g.F.Shelf.faults c.follow-end.new.shelf name) in
    let unwritten = Rose (g.O.Sink.faults c.args.out.now) (g.O.Sink.faults c.follow-end.new.out) in
    let new = record c.follow-end.new.report { status = c.conclude.result } in
    let caused = is_end_last _ (g.F.Shelf.files c.args.shelf.now) unread unwritten c.follow-end.new.report new ended.0 (record { printed = refl; steps = refl; cells = refl }) last.1 ended.2 in
    let asks = asks_last (g.F.Shelf.asked c.args.shelf.now) (g.F.Shelf.asked c.follow-end.new.shelf) (map string_bytes c.args.words.now) c.follow-end.result.1 last.0 last.1 c.follow-end.ensures.asked in
    (ended.0, ended.1, (said.0, said.1, (last.0, caused, asks, subst (λ l. Said l (status_of last.0) (Rose (g.E.Sink.faults c.args.err.now) (g.E.Sink.faults c.conclude.new.err)) c.conclude.result said.0) line last.2)))

pub returns-clause-exact : goal.returns-clause-exact
returns-clause-exact g c = λ files told none ample.
    let answer = returns-clause-answer g c in
    let words = map string_bytes c.args.words.now in
    let before : Counts = record { shelf = g.F.Shelf.faults c.args.shelf.now; asked = g.F.Shelf.asked c.args.shelf.now; out = g.O.Sink.faults c.args.out.now; err = g.E.Sink.faults c.args.err.now } in
    let now : Counts = record { shelf = g.F.Shelf.faults c.follow-end.new.shelf; asked = g.F.Shelf.asked c.follow-end.new.shelf; out = g.O.Sink.faults c.follow-end.new.out; err = g.E.Sink.faults c.conclude.new.err } in
    let new = record c.follow-end.new.report { status = c.conclude.result } in (
      answer.0,
      answer.1,
      (
        answer.2.0,
        answer.2.1,
        exact_where_told words _ (g.F.Shelf.files c.args.shelf.now) (rises before now) new answer.0 answer.2.0 answer.2.2 ample files told none,
      ),
    )

pub returns-clause-read : goal.returns-clause-read
returns-clause-read g c = λ is.
    let answer = returns-clause-answer g c in
    let words = map string_bytes c.args.words.now in
    let before : Counts = record { shelf = g.F.Shelf.faults c.args.shelf.now; asked = g.F.Shelf.asked c.args.shelf.now; out = g.O.Sink.faults c.args.out.now; err = g.E.Sink.faults c.args.err.now } in
    let now : Counts = record { shelf = g.F.Shelf.faults c.follow-end.new.shelf; asked = g.F.Shelf.asked c.follow-end.new.shelf; out = g.O.Sink.faults c.follow-end.new.out; err = g.E.Sink.faults c.conclude.new.err } in
    let new = record c.follow-end.new.report { status = c.conclude.result } in
    read_cause words _ (g.F.Shelf.files c.args.shelf.now) (rises before now) new answer.0 answer.2.0 answer.2.2 is

pub returns-clause-asked : goal.returns-clause-asked
returns-clause-asked g c =
    let last = c.conclude.ensures.said.2 in
    asks_said (g.F.Shelf.asked c.args.shelf.now) (g.F.Shelf.asked c.follow-end.new.shelf) (map string_bytes c.args.words.now) c.follow-end.result.1 last.0 _ _ _ c.conclude.result last.1 last.2 c.follow-end.ensures.asked
