use Rattle.std.proofs.Common.{◌≡◌, ◌≤◌, []}
use Rattle.std.specs.Prelude.{All, vec_len, vec_capacity}
use Rattle.std.specs.Arc.{arc_value}
use Rattle.crossbeam_channel.specs.Claims.{view as job_view, IsSeatAt}
use Rattle.crossbeam_channel.specs.Ends.{sends_on, receives_on}
use Rattle.crossbeam_queue.specs.Passes.{view as done_view, IsPassOf}
use Rattle.cpc_pool_jobs.specs.Views.{submitter}
use Rattle.cpc_pool_ends.specs.Views.{loops}
use Rattle.cpc_pool.proofs.staff.start_all.Given as goal

abbrev pub invariant-loop-n : goal.invariant-loop-n
invariant-loop-n g l =
    (IsSeatAt (sends_on l.sender) l.jobs × (job_view l.jobs ≡ submitter [] 0 l.n []))
    × (IsPassOf (arc_value l.crew.dones) l.dones × (done_view l.dones ≡ loops [] l.n []))
    × All (λ h. (receives_on h.handle.promise.jobs.value ≡ sends_on l.sender) × (arc_value h.handle.promise.dones.value ≡ arc_value l.crew.dones)) l.started.items
    × (vec_len l.started ≤ l.n)
    × (l.workers ≤ vec_capacity l.started)
