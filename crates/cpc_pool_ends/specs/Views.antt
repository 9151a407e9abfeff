-- What each pass knows, before and after each kind of step.
use Rattle.std.specs.Prelude.{◌≡◌, ℕ, ◌+◌, ◌<◌, true, false, List, [], ◌∷◌, ◌++◌, map}
use Rattle.std.specs.List.{AllByRecursion}
use Rattle.cpc_pool_jobs.specs.Views.{Differ, had_by}
use Rattle.cpc_pool_ends.specs.declared.done.Done.{Done}
use Rattle.cpc_pool_ends.specs.declared.views.DoneKept.{DoneKept}
use Rattle.cpc_pool_ends.specs.declared.views.DoneView.{DoneView}

module _ {J E : Type 0} where
  -- the view of the loop
  abbrev pub loops : List (Done J E) → ℕ → List (DoneKept J E) → DoneView J E
  loops popped workers kept = record { pops = true; pushes = false; popped = popped; workers = workers; kept = kept; number = 0; pushed = [] }

  -- the view of a worker
  abbrev pub worker : ℕ → List (Done J E) → DoneView J E
  worker number pushed = record { pops = false; pushes = true; popped = []; workers = 0; kept = []; number = number; pushed = pushed }

  -- a spent view has no list
  abbrev pub spent : DoneView J E
  spent = record { pops = false; pushes = false; popped = []; workers = 0; kept = []; number = 0; pushed = [] }

  -- the list of a worker that has ended
  abbrev pub kept_of : ℕ → List (Done J E) → DoneKept J E
  kept_of w ds = record { worker = w; pushed = ds }

  -- the worker's view after a push
  abbrev pub after_push : DoneView J E → Done J E → DoneView J E
  after_push v d = worker v.number (v.pushed ++ d ∷ [])

  -- the loop's view after a worker was made, and the worker's
  abbrev pub hiring : DoneView J E → DoneView J E
  hiring v = loops v.popped (v.workers + 1) v.kept

  abbrev pub hired : DoneView J E → DoneView J E
  hired v = worker v.workers []

  -- the loop's view after a worker has ended
  abbrev pub keeping : DoneView J E → DoneView J E → DoneView J E
  keeping v w = loops v.popped v.workers (v.kept ++ kept_of w.number w.pushed ∷ [])

  -- the completions of one worker
  abbrev pub by : ℕ → List (Done J E) → List (Done J E)
  by w ds = had_by (λ (d : Done J E). d.worker) (λ (d : Done J E). d) w ds

  -- the workers that have ended, in the order in which they did
  abbrev pub ended : List (DoneKept J E) → List ℕ
  ended kept = map (λ (k : DoneKept J E). k.worker) kept

  -- What each worker that has ended pushed is what was popped of it, and then what the queue holds of it. No worker's list was kept twice
  abbrev pub Settled : DoneView J E → List (Done J E) → Type 0
  Settled v items = AllByRecursion (λ (k : DoneKept J E). (k.worker < v.workers) × (k.pushed ≡ by k.worker (v.popped ++ items))) v.kept × Differ (ended v.kept)

module _ {J E : Type 0} (ends : J → E → Type 0) where
  -- the completion comes next, its worker was made, and its end is that of its own job
  abbrev pub Arrives : DoneView J E → Done J E → DoneView J E → Type 0
  Arrives v d w = (w ≡ loops (v.popped ++ d ∷ []) v.workers v.kept) × (d.worker < v.workers) × ends d.job d.end
