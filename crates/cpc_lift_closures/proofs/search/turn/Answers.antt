use Rattle.std.proofs.Common.{◌<◌, sym, arith, subst, map, [], length, get_or, false}
use Rattle.std.proofs.lemmas.List.{length-map}
use Rattle.std.proofs.lemmas.Result.{on_ok_weaker}
use Rattle.cpc_lift_closures.specs.Rows.{IsNumber}
use Rattle.std.specs.List.{All}
use Rattle.cpc_lift_closures.specs.Turns.{GoesOn, queued}
use Rattle.cpc_lift_closures.proofs.Turning as T
use Rattle.cpc_lift_closures.proofs.search.turn.Goals as goal

pub returns-then-at-len-clause-goes : goal.returns-then-at-len-clause-goes
returns-then-at-len-clause-goes c =
    T.on_ok_both c.visit.result
    (λ marks queue ways are n seen m.
    let rows = map (λ row. row.items) c.args.sources.now in
    let owner = c.index-owner.result.now in
    let lt : c.args.at < length c.args.queue.now.items = omega arith in
    let below : owner < length c.args.sources.now = omega (arith, c.requires.queue c.args.at owner lt) in
    subst (λ new. GoesOn ways (length c.args.sources.now) c.args.at n c.args.queue.now.items seen new c.visit.new.marks.items) (sym queue)
    (subst (λ new. GoesOn ways (length c.args.sources.now) c.args.at n c.args.queue.now.items seen (queued (get_or c.args.marks.now.items owner false) c.args.queue.now.items (get_or rows owner [])) new) (sym marks)
    (T.looked_at ways rows are (length c.args.sources.now) (length-map c.args.sources.now (λ row. row.items)) c.args.at n c.args.queue.now.items seen c.args.marks.now.items m owner lt c.index-owner.ensures below)))
    c.visit.ensures.marks c.visit.ensures.queue

pub returns-then-at-len-clause-queue : goal.returns-then-at-len-clause-queue
returns-then-at-len-clause-queue c =
    on_ok_weaker c.visit.result
    (λ queue.
    let rows = map (λ row. row.items) c.args.sources.now in
    let owner = c.index-owner.result.now in
    let lt : c.args.at < length c.args.queue.now.items = omega arith in
    let below : owner < length rows = omega (arith, c.requires.queue c.args.at owner lt, length-map c.args.sources.now (λ row. row.items)) in
    subst (All (IsNumber (length c.args.sources.now))) (sym queue)
    (T.queued_numbers (get_or c.args.marks.now.items owner false) (length c.args.sources.now) owner c.args.queue.now.items rows below c.requires.queue c.requires.sources))
    c.visit.ensures.queue

pub returns-clause-goes : goal.returns-clause-goes
returns-clause-goes c ways are n seen m =
    T.passed ways (map (λ row. row.items) c.args.sources.now) are (length c.args.sources.now) (length-map c.args.sources.now (λ row. row.items)) c.args.at n c.args.queue.now.items seen c.args.marks.now.items m (omega arith)
