-- What each pass knows, before and after each kind of step.
use Rattle.std.specs.Prelude.{◌≡◌, ◌≢◌, ℕ, ◌+◌, ◌<◌, Bool, true, false, cond, eqb, List, [], ◌∷◌, ◌++◌, map, ⊤}
use Rattle.std.specs.List.{AllByRecursion}
use Rattle.cpc_pool_jobs.specs.declared.message.Message.{Message}
use Rattle.cpc_pool_jobs.specs.declared.message.Message.TheVariants as M
use Rattle.cpc_pool_jobs.specs.declared.views.Kept.{Kept}
use Rattle.cpc_pool_jobs.specs.declared.views.Taken.{Taken}
use Rattle.cpc_pool_jobs.specs.declared.views.View.{View}

-- the view of the submitter
abbrev pub submitter : List ℕ → ℕ → ℕ → List Kept → View
submitter sent stops workers kept = record { submits = true; works = false; sent = sent; stops = stops; workers = workers; kept = kept; number = 0; taken = []; seen = []; stopped = false }

-- the view of a worker
abbrev pub worker : ℕ → List ℕ → List Taken → Bool → View
worker number taken seen stopped = record { submits = false; works = true; sent = []; stops = 0; workers = 0; kept = []; number = number; taken = taken; seen = seen; stopped = stopped }

-- a spent view has no list
abbrev pub spent : View
spent = record { submits = false; works = false; sent = []; stops = 0; workers = 0; kept = []; number = 0; taken = []; seen = []; stopped = false }

-- a job that a worker took
abbrev pub taken_by : ℕ → ℕ → Taken
taken_by w n = record { worker = w; number = n }

-- the list of a worker that has ended
abbrev pub kept_of : ℕ → List ℕ → Kept
kept_of w ns = record { worker = w; taken = ns }

-- the submitter's view after a worker was made, and the worker's
abbrev pub hiring : View → View
hiring v = submitter v.sent v.stops (v.workers + 1) v.kept

abbrev pub hired : View → View
hired v = worker v.workers [] [] false

-- the submitter's view after a worker has ended
abbrev pub keeping : View → View → View
keeping v w = submitter v.sent v.stops v.workers (v.kept ++ kept_of w.number w.taken ∷ [])

-- the numbers rise
abbrev pub Rises : List ℕ → Type 0
Rises [] = ⊤
Rises (n ∷ ns) = AllByRecursion (λ m. n < m) ns × Rises ns

-- the numbers of a log, in the order in which they were taken
abbrev pub numbers : List Taken → List ℕ
numbers log = map (λ (t : Taken). t.number) log

-- what one worker has of a list, by the worker of each item and what is told of it
abbrev pub had_by : {X Y : Type 0} → (X → ℕ) → (X → Y) → ℕ → List X → List Y
had_by whose told w [] = []
had_by whose told w (x ∷ xs) = cond (eqb (whose x) w) (told x ∷ had_by whose told w xs) (had_by whose told w xs)

-- what one worker took
abbrev pub of : ℕ → List Taken → List ℕ
of w ts = had_by (λ (t : Taken). t.worker) (λ (t : Taken). t.number) w ts

-- no two are the same
abbrev pub Differ : List ℕ → Type 0
Differ [] = ⊤
Differ (n ∷ ns) = AllByRecursion (λ m. n ≢ m) ns × Differ ns

-- the workers that have ended, in the order in which they did
abbrev pub ended : List Kept → List ℕ
ended kept = map (λ (k : Kept). k.worker) kept

-- the log begins with what was seen
abbrev pub StartsWith : List Taken → List Taken → Type 0
StartsWith log seen = (rest : List Taken) × (log ≡ seen ++ rest)

-- of jobs with these numbers, that have to meet this
module _ {J : Type 0} (number : J → ℕ) where
  -- the submitter's view after a message was sent
  abbrev pub after_send : View → Message J → View
  after_send v (M.Work j) = submitter (v.sent ++ number j ∷ []) v.stops v.workers v.kept
  after_send v M.Stop = submitter v.sent (v.stops + 1) v.workers v.kept

  -- the numbers of the jobs among the messages, in order
  abbrev pub jobs_in : List (Message J) → List ℕ
  jobs_in [] = []
  jobs_in (M.Work j ∷ ms) = number j ∷ jobs_in ms
  jobs_in (M.Stop ∷ ms) = jobs_in ms

  -- What was sent is a log of what was taken, and then what the channel holds. Each list that was kept is what the log has of its worker,
  -- and no worker's list was kept twice
  abbrev pub Settled : View → List (Message J) → Type 0
  Settled v items =
      (log : List Taken) × (v.sent ≡ numbers log ++ jobs_in items) × Rises v.sent
      × AllByRecursion (λ (t : Taken). t.worker < v.workers) log
      × AllByRecursion (λ (k : Kept). (k.worker < v.workers) × (k.taken ≡ of k.worker log)) v.kept
      × Differ (ended v.kept)

  -- what a worker sees: the log of all that was taken begins with what the worker had seen, the worker's own list is what it has of the worker, and the
  -- numbers in it and then in what the channel holds rise
  abbrev pub Sees : View → List (Message J) → Type 0
  Sees v items = (log : List Taken) × StartsWith log v.seen × (v.taken ≡ of v.number log) × Rises (numbers log ++ jobs_in items)

module _ {J : Type 0} (number : J → ℕ) (meets : J → Type 0) where
  -- The log of all that was taken begins with what the worker had seen and ends with the job. Its numbers rise, and the worker's own list
  -- is what it has of the worker: so no other worker has the job
  abbrev pub TakesJob : View → J → View → Type 0
  TakesJob v j w =
      (between : List Taken)
      × (w ≡ worker v.number (v.taken ++ number j ∷ []) ((v.seen ++ between) ++ taken_by v.number (number j) ∷ []) v.stopped)
      × Rises (numbers w.seen) × (of v.number w.seen ≡ w.taken) × meets j

  -- what a receive tells
  abbrev pub Takes : View → Message J → View → Type 0
  Takes v (M.Work j) w = TakesJob v j w
  Takes v M.Stop w = w ≡ worker v.number v.taken v.seen true
