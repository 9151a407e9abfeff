-- What the acts of a pool come to.
use Rattle.std.specs.Prelude.{◌≡◌, ◌⊎◌, ℕ, ◌<◌, ◌≤◌, ◌+◌, ◌-◌, List, [], ◌∷◌, ◌++◌, suc, length, take, drop, slice_get, slice_index_or, Option, Some, None, MatchOption}
use Rattle.std.specs.Option.{IsSome}
use Rattle.crossbeam_queue.specs.Fifo.{Held}
use Rattle.cpc_pool_jobs.specs.declared.message.Message.TheVariants as M
use Rattle.cpc_pool_jobs.specs.declared.views.View.{View}
use Rattle.cpc_pool_jobs.specs.Views.{after_send}
use Rattle.cpc_pool_ends.specs.declared.done.Done.{Done}
use Rattle.cpc_pool_ends.specs.declared.views.DoneView.{DoneView}
use Rattle.cpc_pool_ends.specs.Views.{Arrives, Settled, after_push}

-- how many jobs are out at most: sent to the workers, with a completion that was not accepted yet
abbrev pub most_out : ℕ
most_out = 1024

-- how many workers a pool has at most
abbrev pub most_workers : ℕ
most_workers = 64

-- how many messages the channel has room for: the jobs that may be out, and a stop for each worker
abbrev pub most_messages : ℕ
most_messages = most_out + most_workers

-- the completion of a job that the pool ran itself
abbrev pub ran : {J E : Type 0} → J → E → Done J E
ran j e = record { worker = 0; job = j; end = e }

-- the pool ran the job: its completion stands last in the pool's own list
abbrev pub Ran : {J E : Type 0} → (J → E → Type 0) → J → List (Done J E) → List (Done J E) → Type 0
Ran {J} {E} ends j own left = (e : E) × (left ≡ own ++ ran j e ∷ []) × ends j e

-- the completion of a job that this worker ran
abbrev pub ran_by : {J E : Type 0} → ℕ → J → E → Done J E
ran_by n j e = record { worker = n; job = j; end = e }

-- a worker pushed the completion of a job that it ran, with an end that is the job's own
abbrev pub Brought : {J E : Type 0} → (J → E → Type 0) → ℕ → J → DoneView J E → DoneView J E → Type 0
Brought {J} {E} ends n j v w = (e : E) × ends j e × (w ≡ after_push v (ran_by n j e))

-- what a worker took, by the numbers, and what it pushed, each in order: a job that it took was run, and its completion pushed with an end that is the job's
-- own; or it was not run
pub data Works {J E : Type 0} (number : J → ℕ) (ends : J → E → Type 0) (n : ℕ) : List ℕ → List (Done J E) → Type 0 where
  none : Works number ends n [] []
  run : {took : List ℕ} {pushed : List (Done J E)} (j : J) (e : E) → Works number ends n took pushed → ends j e
      → Works number ends n (took ++ number j ∷ []) (pushed ++ ran_by n j e ∷ [])
  unrun : {took : List ℕ} {pushed : List (Done J E)} (k : ℕ) → Works number ends n took pushed → Works number ends n (took ++ k ∷ []) pushed

-- a worker took so and pushed so, between these views of its passes
abbrev pub Worked : {J E : Type 0} → (J → ℕ) → (J → E → Type 0) → ℕ → View → View → DoneView J E → DoneView J E → Type 0
Worked {J} {E} number ends n v w p q =
    (took : List ℕ) × (pushed : List (Done J E)) × Works number ends n took pushed × (w.taken ≡ v.taken ++ took) × (q.pushed ≡ p.pushed ++ pushed)

-- A job was submitted. It was sent, or the pool ran it
abbrev pub Submitted : {J E : Type 0} → (J → ℕ) → (J → E → Type 0) → J → List (Done J E) → List (Done J E) → View → View → Type 0
Submitted {J} {E} number ends j own left v w =
    ((w ≡ after_send number v (M.Work j)) × (left ≡ own))
    ⊎ ((w ≡ v) × Ran ends j own left)

-- the job was sent, or there is a cause for which it was not: there is no worker, as many jobs are out as may be, or a send failed, now or before
abbrev pub SentOrWhy : {J U : Type 0} → (J → ℕ) → J → View → View → (workers out : ℕ) → Option U → Type 0
SentOrWhy number j v w workers out unsent =
    (w ≡ after_send number v (M.Work j)) ⊎ (workers ≡ 0) ⊎ (most_out ≤ out) ⊎ IsSome unsent

-- What is accepted is the first of the pool's own list. Where that is empty it is the next of the queue, or nothing, and then the queue
-- was empty at a moment of the call, as far as the workers that have ended pushed into it
abbrev pub Accepted : {J E : Type 0} → (J → E → Type 0) → List (Done J E) → List (Done J E) → DoneView J E → DoneView J E → Option (Done J E) → Type 0
Accepted ends (d ∷ ds) left v w r = (r ≡ Some d) × (left ≡ ds) × (w ≡ v)
Accepted ends [] left v w r = (left ≡ []) × MatchOption r ((w ≡ v) × Held 0 (Settled v)) (λ d. Arrives ends v d w)

-- how many jobs are out once one was submitted: one more where it was sent, and as many where the pool ran it
abbrev pub SubmittedOut : {J : Type 0} → (J → ℕ) → J → View → View → (out left : ℕ) → Type 0
SubmittedOut number j v w out left = ((w ≡ after_send number v (M.Work j)) × (left ≡ out + 1)) ⊎ ((w ≡ v) × (left ≡ out))

-- how many jobs are out once something was accepted: one fewer where a worker brought it, and as many where it is of the pool's own list, or nothing came
abbrev pub AcceptedOut : {X : Type 0} → List X → Option X → (out left : ℕ) → Type 0
AcceptedOut (d ∷ ds) r out left = left ≡ out
AcceptedOut [] None out left = left ≡ out
AcceptedOut [] (Some d) out left = left ≡ out - 1

-- among these completions, that at this place is of a job each of whose ends is an end of this one
abbrev pub IsOf : {J E : Type 0} → (J → E → Type 0) → List (Done J E) → ℕ → J → Type 0
IsOf {J} {E} ends dones at j = (at < length dones) × ((d : Done J E) (e : E) → ends (slice_index_or dones at d).job e → ends j e)

-- the completion at this place is of the same job
abbrev pub IsAt : {J E : Type 0} → (J → J → Type 0) → List (Done J E) → ℕ → J → Type 0
IsAt same dones at j = MatchOption (slice_get dones at) ⊥ (λ d. same d.job j)

-- none of these completions before a place is of the same job
abbrev pub NoneAt : {J E : Type 0} → (J → J → Type 0) → List (Done J E) → ℕ → J → Type 0
NoneAt same dones n j = (at : ℕ) → at < n → IsAt same dones at j → ⊥

-- The end of the first completion of the same job was taken out, and the others stay in their order; where there is none, all stay
abbrev pub Taken : {J E : Type 0} → (J → J → Type 0) → J → List (Done J E) → List (Done J E) → Option E → Type 0
Taken same j old new None = NoneAt same old (length old) j × (new ≡ old)
Taken {J} {E} same j old new (Some e) =
    (at : ℕ) × (d : Done J E) × NoneAt same old at j × (slice_get old at ≡ Some d) × same d.job j × (e ≡ d.end) × (new ≡ take at old ++ drop (suc at) old)
