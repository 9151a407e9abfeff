-- What the passes of a pool and of its workers are.
use Rattle.std.specs.Prelude.{◌≡◌, ℕ, ◌<◌, true, List, Option}
use Rattle.std.specs.List.{AllByRecursion}
use Rattle.crossbeam_channel.specs.Claims.{IsSeatAt, Pass as JobSeat, view as job_view}
use Rattle.crossbeam_channel.specs.declared.flavors.array.Rows.{Rows}
use Rattle.crossbeam_channel.specs.declared.flavors.array.Key.{Key}
use Rattle.crossbeam_channel.specs.declared.flavors.array.Doing.{Doing as JobDoing}
use Rattle.atomic_table.specs.declared.badge.Badge.{Badge}
use Rattle.crossbeam_queue.specs.Passes.{IsPassOf, Pass as DoneSeat, view as done_view}
use Rattle.crossbeam_queue.specs.declared.array_queue.Slotted.{Slotted}
use Rattle.crossbeam_queue.specs.declared.array_queue.Doing.{Doing as DoneDoing}
use Rattle.cpc_pool_jobs.specs.declared.message.Message.{Message}
use Rattle.cpc_pool_jobs.specs.declared.views.View.{View}
use Rattle.cpc_pool_ends.specs.declared.done.Done.{Done}
use Rattle.cpc_pool_ends.specs.declared.views.DoneView.{DoneView}

-- a worker's pass of this channel
abbrev pub WorksAt : {J Q M L A : Type 0} → Rows (Badge (Key (Message J))) (JobDoing (Message J) View) Q M (Key (Message J)) L A → JobSeat (Message J) View → Type 0
WorksAt c p = IsSeatAt c p × ((job_view p).works ≡ true)

-- a pass of this queue, of the worker with this number
abbrev pub PushesAt : {J E Q A : Type 0} → Slotted (Option (Done J E)) (DoneDoing (Done J E) (DoneView J E)) Q A → ℕ → DoneSeat (Done J E) (DoneView J E) → Type 0
PushesAt q n p = IsPassOf q p × ((done_view p).pushes ≡ true) × (n ≡ (done_view p).number)

-- the submitter's pass of this channel
abbrev pub Submits : {J Q M L A : Type 0} → Rows (Badge (Key (Message J))) (JobDoing (Message J) View) Q M (Key (Message J)) L A → JobSeat (Message J) View → Type 0
Submits c p = IsSeatAt c p × ((job_view p).submits ≡ true)

-- the loop's pass of this queue
abbrev pub Pops : {J E Q A : Type 0} → Slotted (Option (Done J E)) (DoneDoing (Done J E) (DoneView J E)) Q A → DoneSeat (Done J E) (DoneView J E) → Type 0
Pops q p = IsPassOf q p × ((done_view p).pops ≡ true)

-- each number is below n
abbrev pub AreBelow : ℕ → List ℕ → Type 0
AreBelow n ns = AllByRecursion (λ k. k < n) ns
