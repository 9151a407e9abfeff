use Rattle.std.proofs.Common.{ap, refl, subst}
use Rattle.crossbeam_channel.specs.Claims.{view as job_view}
use Rattle.crossbeam_queue.specs.Passes.{view as done_view}
use Rattle.cpc_pool_jobs.specs.Views.{Takes}
use Rattle.cpc_pool.proofs.Working.{works_more, works_none, works_still}
use Rattle.cpc_pool.proofs.worker.work.Goals as goal

pub loop-init : goal.loop-init
loop-init g c = (c.requires.jobs, c.requires.dones, works_none g.W.Runner.number g.W.Runner.ends c.args.number (job_view c.args.taking) (done_view c.args.bringing))

pub loop-preserved : goal.loop-preserved
loop-preserved g c =
    let old = job_view c.loop.taking in
    let new = job_view c.take.new.pass in
    let took = subst (λ m. Takes g.W.Runner.number g.W.Runner.meets old m new) c.in-Ok-Work.field-0-is c.in-Ok-Work.ensures.took in (
      (c.take.ensures.seat.0, ap (λ v. v.works) took.1),
      c.work_on.ensures.role,
      works_more g.W.Runner.number g.W.Runner.ends c.args.number (job_view c.args.taking) old new (done_view c.args.bringing) (done_view c.loop.bringing) (done_view c.work_on.new.bringing) c.in-Ok-Work.job c.loop.invariant.2 (ap (λ v. v.taken) took.1) c.work_on.ensures.brought,
    )

pub returns-in-Ok-Stop-clause-worked : goal.returns-in-Ok-Stop-clause-worked
returns-in-Ok-Stop-clause-worked g c =
    let old = job_view c.loop.taking in
    let new = job_view c.take.new.pass in
    let took = subst (λ m. Takes g.W.Runner.number g.W.Runner.meets old m new) c.in-Ok-Stop.field-0-is c.in-Ok-Stop.ensures.took in
    works_still g.W.Runner.number g.W.Runner.ends c.args.number (job_view c.args.taking) old new (done_view c.args.bringing) (done_view c.loop.bringing) (done_view c.loop.bringing) c.loop.invariant.2 (ap (λ v. v.taken) took) refl

pub returns-in-Ok-Stop-clause-stopped : goal.returns-in-Ok-Stop-clause-stopped
returns-in-Ok-Stop-clause-stopped g c =
    let took = subst (λ m. Takes g.W.Runner.number g.W.Runner.meets (job_view c.loop.taking) m (job_view c.take.new.pass)) c.in-Ok-Stop.field-0-is c.in-Ok-Stop.ensures.took in
    ap (λ v. v.stopped) took

pub returns-in-Err-clause-worked : goal.returns-in-Err-clause-worked
returns-in-Err-clause-worked g c =
    works_still g.W.Runner.number g.W.Runner.ends c.args.number (job_view c.args.taking) (job_view c.loop.taking) (job_view c.take.new.pass) (done_view c.args.bringing) (done_view c.loop.bringing) (done_view c.loop.bringing) c.loop.invariant.2 (ap (λ v. v.taken) c.in-Err.ensures.took.0) refl
