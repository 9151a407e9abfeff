-- The jobs that are held against those of the definition.
use Rattle.std.specs.Prelude.{◌≡◌, ◌<◌, ◌==◌, ℕ, true, false, if◌then◌else◌, List, [], ◌∷◌, Option, Some, None}
use Rattle.std.specs.List.{AllByRecursion}
use Rattle.cpc_base.specs.Waiting.{without}
use Rattle.cpc_tree.specs.Erase.{Names}
use Rattle.cpc_tree.specs.Lists.{holds_number}
use Rattle.cpc_meaning.specs.Copies.{job_numbered}
use Rattle.cpc_meaning.specs.Section as M
use Rattle.cpc_sections.specs.Jobs.{job_of}
use Rattle.cpc_sections.specs.declared.collected.Collected.{Collected}
use Rattle.cpc_sections.specs.declared.collected.Collected.TheVariants.{AllGave, OneFailed}
use Rattle.cpc_sections.specs.declared.job.Job.{Job}
use Rattle.cpc_run_jobs.specs.Under.{under}

-- the job that the code has is that of the definition
abbrev pub IsJob : Names → Option Job → Option M.Job → Type 0
IsJob names (Some x) job = job ≡ Some (job_of names x)
IsJob names None job = ⊥

-- so many jobs were made, and those of these numbers stand there, and no others
pub record AreHeld (names : Names) (held : List (ℕ × Job)) (jobs : List M.Job) (made : ℕ) (out : List ℕ) : Type 0 where
  pub below : AllByRecursion (λ x. x.number < made) jobs
  pub each : (n : ℕ) → holds_number out n ≡ true → IsJob names (under n held) (job_numbered jobs n)
  pub none : (n : ℕ) → holds_number out n ≡ false → under n held ≡ None

-- those of these numbers that are out, each at its turn
abbrev pub are_out : List ℕ → List ℕ → List ℕ
are_out [] out = []
are_out (n ∷ ns) out = if holds_number out n then n ∷ are_out ns (without (λ m. m == n) out) else are_out ns out

-- what is out once the sections of these numbers were told
abbrev pub left_out : List ℕ → List ℕ → List ℕ
left_out [] out = out
left_out (n ∷ ns) out = left_out ns (without (λ m. m == n) out)

-- what is said where all sections gave values; after a fault nothing is
abbrev pub IfAllGave : Collected → Type 0 → Type 0
IfAllGave (AllGave vs) P = P
IfAllGave (OneFailed fault f) P = Unit {0}
