-- The rule of the channel: what it holds, and what each pass knows.
use Rattle.std.specs.Prelude.{◌≡◌, ℕ, ◌<◌, ◌≤◌, true, List, ◌++◌, map, replicate}
use Rattle.std.specs.List.{AllByRecursion}
use mathlib.Core.Option.{Option, some, none}
use lib.ListN.{get_elem?}
use Rattle.cpc_pool_jobs.specs.declared.message.Message.{Message}
use Rattle.cpc_pool_jobs.specs.declared.message.Message.TheVariants as M
use Rattle.cpc_pool_jobs.specs.declared.views.Kept.{Kept}
use Rattle.cpc_pool_jobs.specs.declared.views.Taken.{Taken}
use Rattle.cpc_pool_jobs.specs.declared.views.View.{View}
use Rattle.cpc_pool_jobs.specs.Views.{Rises, Differ, ended, numbers, of, StartsWith}

-- what all passes know parts of: the submitter's pass, the numbers sent, the jobs taken in order, the stops sent, how many workers
-- were made, and which pass each worker has
pub record State : Type 0 where
  pub chief : ℕ
  pub sent : List ℕ
  pub log : List Taken
  pub stops : ℕ
  pub workers : ℕ
  pub seat : ℕ → Option ℕ

-- The channel holds jobs, and then stops. The numbers sent are those taken and then these, and rise. Each job may be run
pub record Contains {J : Type 0} (number : J → ℕ) (meets : J → Type 0) (s : State) (items : List (Message J)) : Type 0 where
  pub jobs : List J
  pub left : ℕ
  pub channel : items ≡ map M.Work jobs ++ replicate left M.Stop
  pub order : numbers s.log ++ map number jobs ≡ s.sent
  pub rises : Rises s.sent
  pub meet : AllByRecursion meets jobs
  pub fewer : left ≤ s.stops
  pub known : AllByRecursion (λ (t : Taken). t.worker < s.workers) s.log

-- a list that was kept is what its worker took, and the worker has no pass
abbrev pub IsKept : State → Kept → Type 0
IsKept s k = (k.worker < s.workers) × (s.seat k.worker ≡ none) × (k.taken ≡ of k.worker s.log)

-- the one submitter knows what was sent, and keeps lists, each of another worker
abbrev pub IsChief : State → ℕ → View → Type 0
IsChief s q v = (q ≡ s.chief) × (v.sent ≡ s.sent) × (v.stops ≡ s.stops) × (v.workers ≡ s.workers) × AllByRecursion (IsKept s) v.kept × Differ (ended v.kept)

-- a worker has a number of its own, knows what it took, and has seen the beginning of the log
abbrev pub IsWorker : State → ℕ → View → Type 0
IsWorker s q v = (v.number < s.workers) × (s.seat v.number ≡ some q) × (v.taken ≡ of v.number s.log) × StartsWith s.log v.seen

abbrev pub Fits : State → ℕ → View → Type 0
Fits s q v = (v.submits ≡ true → IsChief s q v) × (v.works ≡ true → IsWorker s q v)

-- the rule
abbrev pub Ruled : {J : Type 0} → (J → ℕ) → (J → Type 0) → List (Message J) → List View → Type 0
Ruled number meets items views = (s : State) × Contains number meets s items × ((q : ℕ) (v : View) → get_elem? views q ≡ some v → Fits s q v)
