-- What holds of each state of a lifted run, as statements.
use Rattle.std.specs.Prelude.{◌≡◌, ℕ, Bool, true}
use Rattle.cpc_base.specs.Bytes.{Text}
use Rattle.cpc_meaning_matching.specs.Systems.{run}
use Rattle.cpc_meaning.specs.History.{History}
use Rattle.cpc_meaning.specs.Plain.{Form}
use Rattle.cpc_lift_laws.specs.Lifted.{lifted_system}
use Rattle.cpc_lifted_laws.specs.Related.Boxes.{OwnsBoxes}
use Rattle.cpc_lifted_laws.specs.Known.Jobs.{SectionsTake, JobsFine}

-- the boxes of all frames of all threads are live, and no two of them are one block
abbrev pub LiftedBoxesStay : (P : Type 0) → Type 0
LiftedBoxesStay P = (p : Form P) (kept : Text → P → ℕ → Bool) (h : History) (n : ℕ) → OwnsBoxes (run (lifted_system kept p h) n)

-- the sections that are out run such functions, on integers
abbrev pub LiftedJobsStay : (P : Type 0) → Type 0
LiftedJobsStay P = (p : Form P) (is_section : Text → Bool) → SectionsTake p (λ f. is_section f ≡ true) → (kept : Text → P → ℕ → Bool) (h : History) (n : ℕ) → JobsFine (λ f. is_section f ≡ true) (run (lifted_system kept p h) n).jobs
