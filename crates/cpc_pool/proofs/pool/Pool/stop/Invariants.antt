use Rattle.std.proofs.Common.{◌≡◌}
use Rattle.crossbeam_channel.specs.Claims.{view as job_view}
use Rattle.crossbeam_channel.specs.Ends.{sends_on}
use Rattle.cpc_pool.specs.Passes.{Submits}
use Rattle.cpc_pool.proofs.pool.Pool.stop.Given as goal

abbrev pub invariant-loop : goal.invariant-loop
invariant-loop g l = Submits (sends_on l.sender) l.jobs × ((job_view l.jobs).sent ≡ (job_view l.fn.jobs).sent) × ((job_view l.jobs).kept ≡ (job_view l.fn.jobs).kept)
