use Rattle.std.proofs.Common.{◌≡◌, ◌+◌, ◌-◌, ap, sym, ◌∙◌, arith, length, drop, suc}
use Rattle.cpc_lift_laws.specs.Search as S
use Rattle.cpc_lift_closures.specs.Rows.{links_of}
use Rattle.cpc_lift_closures.proofs.search.keepers.Goals as goal

pub loop-at-preserved : goal.loop-at-preserved
loop-at-preserved c =
    let old = c.loop-at.invariant.search in
    let left = length c.args.users.now + length c.args.ways.now - (c.loop-at.at + 1) in
    let g = c.in_ok-turn.ensures.goes (links_of c.args.ways.now) c.requires.rows left old.0 old.1 in
    let more : length c.args.users.now + length c.args.ways.now - c.loop-at.at ≡ suc left = omega arith in
    record {
      queue = c.in_ok-turn.ensures.queue;
      marks = c.in_ok-turn.ensures.marks;
      search = (g.next, g.marked, sym g.same ∙ ap (λ n. S.search (links_of c.args.ways.now) n (drop c.loop-at.at c.loop-at.queue.items) old.0) (sym more) ∙ old.2);
    }
