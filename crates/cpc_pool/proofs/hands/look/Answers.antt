use Rattle.crossbeam_queue.specs.Passes.{view as done_view}
use Rattle.cpc_pool.proofs.Coming.{came_one, answers_one}
use Rattle.cpc_pool.proofs.hands.look.Goals as goal

pub returns-then-is_same-clause-looked : goal.returns-then-is_same-clause-looked
returns-then-is_same-clause-looked g c =
    let came = came_one g.W.Runner.ends c.args.pool.now.own.0 c.accept.new.self.own.0 (done_view c.args.dones.now) (done_view c.accept.new.pass) c.in-Some.done c.in-Some.ensures.accepted in
    answers_one g.W.Runner.same c.args.job.now _ _ _ _ _ _ c.in-Some.done came (c.is_same.ensures.same.0 c.if-is_same.true) c.reserve.ensures.same
