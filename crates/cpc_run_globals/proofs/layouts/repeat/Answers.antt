use Rattle.std.proofs.Common.{length, ap, ◌∙◌, arith}
use Rattle.std.proofs.lemmas.List.{length-append}
use Rattle.cpc_run_globals.proofs.Held.{nothing_more, once_more}
use Rattle.cpc_run_globals.proofs.layouts.repeat.Goals as goal

pub returns-then-start-end : goal.returns-then-start-end
returns-then-start-end c = λ front cells is at.
    nothing_more c.args.row.now.items front cells c.args.start c.len-end.result is at (omega (arith, c.len-end.ensures, c.args.row.now.ok.0)) c.args.times (omega (arith, c.if-start-end.true))

pub loop-round-preserved : goal.loop-round-preserved
loop-round-preserved c =
    let row = c.args.row.now.items in
    let more = c.in_ok-extend_from_within.ensures.items in
    record {
      room = let e = ap length more ∙ length-append c.loop-round.row.items _ in omega (arith, e, c.loop-round.invariant.room);
      rows = λ front cells is at. more ∙ once_more row front cells c.args.start c.len-end.result is at (omega (arith, c.len-end.ensures, c.args.row.now.ok.0)) c.loop-round._round c.loop-round.row.items (omega arith) (c.loop-round.invariant.rows front cells is at);
    }
