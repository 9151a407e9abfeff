use Rattle.std.proofs.Common.{◌≡◌, ◌+◌, length}
use Rattle.std.specs.Prelude.{All, vec_len}
use Rattle.std.specs.Arc.{arc_value}
use Rattle.crossbeam_channel.specs.Claims.{view as job_view}
use Rattle.crossbeam_channel.specs.Ends.{sends_on, receives_on}
use Rattle.crossbeam_queue.specs.Passes.{view as done_view}
use Rattle.cpc_pool.specs.Passes.{Submits, Pops}
use Rattle.cpc_pool.proofs.staff.join_all.Given as goal

abbrev pub invariant-loop-left : goal.invariant-loop-left
invariant-loop-left g l =
    All (λ h. (receives_on h.handle.promise.jobs.value ≡ sends_on l.sender) × (arc_value h.handle.promise.dones.value ≡ arc_value l.crew.dones)) l.left.items
    × (Submits (sends_on l.sender) l.jobs × ((job_view l.jobs).sent ≡ (job_view l.fn.jobs).sent))
    × (Pops (arc_value l.crew.dones) l.dones × ((done_view l.dones).popped ≡ (done_view l.fn.dones).popped))
    × ((job_view l.jobs).workers ≡ (job_view l.fn.jobs).workers) × ((done_view l.dones).workers ≡ (done_view l.fn.dones).workers)
    × (length (job_view l.jobs).kept + vec_len l.left ≡ length (job_view l.fn.jobs).kept + vec_len l.fn.started)
    × (length (done_view l.dones).kept + vec_len l.left ≡ length (done_view l.fn.dones).kept + vec_len l.fn.started)

abbrev pub decreases-loop-left : goal.decreases-loop-left
decreases-loop-left g l = vec_len l.left
