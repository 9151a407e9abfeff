use Rattle.std.specs.Arc.{arc_value}
use Rattle.crossbeam_channel.specs.Claims.{view as job_view}
use Rattle.crossbeam_channel.specs.Ends.{receives_on}
use Rattle.crossbeam_queue.specs.Passes.{view as done_view}
use Rattle.cpc_pool.specs.Acts.{Worked}
use Rattle.cpc_pool.specs.Passes.{WorksAt, PushesAt}
use Rattle.cpc_pool.proofs.worker.work.Given as goal

abbrev pub invariant-loop : goal.invariant-loop
invariant-loop g l =
    WorksAt (receives_on l.jobs) l.taking × PushesAt (arc_value l.crew.dones) l.number l.bringing
    × Worked g.W.Runner.number g.W.Runner.ends l.number (job_view l.fn.taking) (job_view l.taking) (done_view l.fn.bringing) (done_view l.bringing)
