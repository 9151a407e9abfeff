use Rattle.std.proofs.Common.{◌≡◌}
use Rattle.std.specs.Arc.{arc_value}
use Rattle.crossbeam_queue.specs.Passes.{view as done_view}
use Rattle.cpc_pool.specs.Arrivals.{Waits}
use Rattle.cpc_pool.specs.Passes.{Pops}
use Rattle.cpc_pool.proofs.hands.wait_for.Given as goal

abbrev pub invariant-loop : goal.invariant-loop
invariant-loop g l =
    Pops (arc_value l.pool.crew.dones) l.dones × (l.pool.jobs ≡ l.fn.pool.jobs) × (l.pool.crew ≡ l.fn.pool.crew)
    × Waits g.W.Runner.same l.job l.fn.early.0 l.early.0 l.fn.pool.own.0 l.pool.own.0 (done_view l.fn.dones).popped (done_view l.dones).popped
