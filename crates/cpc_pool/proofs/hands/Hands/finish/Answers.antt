use Rattle.std.proofs.Common.{refl, subst, inl}
use Rattle.std.specs.Prelude.{MatchResult}
use Rattle.crossbeam_channel.specs.Claims.{view as job_view}
use Rattle.crossbeam_queue.specs.Passes.{view as done_view}
use Rattle.cpc_pool.specs.Arrivals.{Finished, Unfinished}
use Rattle.cpc_pool.proofs.Coming.{finished_by, known}
use Rattle.cpc_pool.proofs.hands.Hands.finish.Goals as goal

pub returns-in-Some-clause-finished : goal.returns-in-Some-clause-finished
returns-in-Some-clause-finished g c =
    let it = c.self.inside in
    let new = known it.next c.take.new.self.0 it.pool.own.0 (done_view it.dones).popped (job_view it.jobs).sent in
    subst (λ v. Finished g.W.Runner.same c.args.job.now v new c.in-Some.end) c.self.view_is (inl (c.in-Some.ensures.taken, refl {a = it.pool.own.0}, refl {a = (done_view it.dones).popped}))

pub returns-clause-finished : goal.returns-clause-finished
returns-clause-finished g c =
    let it = c.self.inside in
    let same = g.W.Runner.same in
    let j = c.args.job.now in
    let old = known it.next it.early.0 it.pool.own.0 (done_view it.dones).popped (job_view it.jobs).sent in
    let new = known it.next c.wait_for.new.early.0 c.wait_for.new.pool.own.0 (done_view c.wait_for.new.dones).popped (job_view it.jobs).sent in
    subst (λ v. MatchResult c.wait_for.result (λ e. Finished same j v new e) (λ _. Unfinished same j v new)) c.self.view_is
    (finished_by same j old new c.take.new.self.0 c.wait_for.result (rw c.in_default.is at c.take.ensures.taken) c.wait_for.ensures.waited)
