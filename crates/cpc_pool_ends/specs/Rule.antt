-- The rule of the queue: what it holds, and what each pass knows.
use Rattle.std.specs.Prelude.{◌≡◌, ℕ, ◌<◌, true, List, ◌++◌}
use Rattle.std.specs.List.{AllByRecursion}
use mathlib.Core.Option.{Option, some, none}
use lib.ListN.{get_elem?}
use Rattle.cpc_pool_jobs.specs.Views.{Differ}
use Rattle.cpc_pool_ends.specs.declared.done.Done.{Done}
use Rattle.cpc_pool_ends.specs.declared.views.DoneKept.{DoneKept}
use Rattle.cpc_pool_ends.specs.declared.views.DoneView.{DoneView}
use Rattle.cpc_pool_ends.specs.Views.{by, ended}

-- what all passes know parts of: the loop's pass, what was popped, all that was pushed in order, how many workers were made, and
-- which pass each has
pub record State (J E : Type 0) : Type 0 where
  pub chief : ℕ
  pub popped : List (Done J E)
  pub all : List (Done J E)
  pub workers : ℕ
  pub seat : ℕ → Option ℕ

-- what was pushed is what was popped, and then what the queue holds. Each completion names a worker, and has the end of its job
pub record Contains {J E : Type 0} (ends_of : J → E → Type 0) (s : State J E) (items : List (Done J E)) : Type 0 where
  pub order : s.popped ++ items ≡ s.all
  pub known : AllByRecursion (λ (d : Done J E). d.worker < s.workers) s.all
  pub ends : AllByRecursion (λ (d : Done J E). ends_of d.job d.end) s.all

-- a list that was kept is what its worker pushed, and the worker has no pass
abbrev pub IsKept : {J E : Type 0} → State J E → DoneKept J E → Type 0
IsKept s k = (k.worker < s.workers) × (s.seat k.worker ≡ none) × (k.pushed ≡ by k.worker s.all)

-- the one loop knows what was popped, and keeps lists, each of another worker
abbrev pub IsChief : {J E : Type 0} → State J E → ℕ → DoneView J E → Type 0
IsChief s q v = (q ≡ s.chief) × (v.popped ≡ s.popped) × (v.workers ≡ s.workers) × AllByRecursion (IsKept s) v.kept × Differ (ended v.kept)

-- a worker has a number of its own, and knows what it pushed
abbrev pub IsWorker : {J E : Type 0} → State J E → ℕ → DoneView J E → Type 0
IsWorker s q v = (v.number < s.workers) × (s.seat v.number ≡ some q) × (v.pushed ≡ by v.number s.all)

abbrev pub Fits : {J E : Type 0} → State J E → ℕ → DoneView J E → Type 0
Fits s q v = (v.pops ≡ true → IsChief s q v) × (v.pushes ≡ true → IsWorker s q v)

-- the rule
abbrev pub Ruled : {J E : Type 0} → (J → E → Type 0) → List (Done J E) → List (DoneView J E) → Type 0
Ruled {J} {E} ends items views = (s : State J E) × Contains ends s items × ((q : ℕ) (v : DoneView J E) → get_elem? views q ≡ some v → Fits s q v)
