use Rattle.std.proofs.Common.{◌≡◌}
use Rattle.crossbeam_queue.specs.Passes.{view as done_view}
use Rattle.cpc_pool.specs.Passes.{PushesAt}
use Rattle.cpc_pool.proofs.worker.bring.Given as goal

abbrev pub invariant-loop : goal.invariant-loop
invariant-loop g l =
    PushesAt l.dones l.number l.pass × (l.left.worker ≡ l.number) × g.W.Runner.ends l.left.job l.left.end
    × (done_view l.pass ≡ done_view l.fn.pass) × (l.left ≡ l.fn.done)
