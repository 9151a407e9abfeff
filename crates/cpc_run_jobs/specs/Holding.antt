-- What runs the jobs, and the jobs that it holds against those of the definition.
use Rattle.std.specs.Prelude.{◌≡◌, ℕ, suc, List, [], ◌∷◌, ◌++◌, map, reverse, Option, Some, Result, Ok, Err}
use Rattle.cpc_base.specs.declared.stop.Stop.{Stop}
use Rattle.cpc_base.specs.declared.stop.Stop.TheVariants.{Memory, Fault as Faulted}
use Rattle.cpc_num.specs.declared.kinds.Fault.{Fault}
use Rattle.cpc_tree.specs.Erase.{Names, item_of}
use Rattle.cpc_tree.specs.Syntax.{Program}
use Rattle.cpc_tree.specs.declared.program.Program as GProgram
use Rattle.cpc_store.specs.Store.{Value}
use Rattle.cpc_meaning.specs.Answer.{Answer, Gives, Faults, NoAnswer}
use Rattle.cpc_meaning.specs.Section as M
use Rattle.cpc_run_sections.specs.Runs.{Runs}
use Rattle.cpc_run_globals.specs.Layouts.{AreLayouts}
use Rattle.cpc_run_jobs.specs.declared.jobs.Jobs.{Jobs}
pub use Rattle.cpc_run_jobs.specs.Held.{AreHeld, are_out, left_out, IfAllGave}

-- the program whose sections they are, where names have these texts
abbrev pub items_of : Names → Jobs → Program
items_of names j = map (item_of names) j.program.now.items.items

-- it is said how its code runs, and what its structs hold
pub record Serves (names : Names) (j : Jobs) : Type 0 where
  pub runs : Runs names j.program.now.names (items_of names j)
  pub layouts : AreLayouts j.layouts names (reverse (items_of names j))

-- the same of the jobs of the code
abbrev pub Holds : Names → Jobs → List M.Job → ℕ → List ℕ → Type 0
Holds names j jobs made out = AreHeld names j.out jobs made out

-- sections of this program, with this bound on the steps of each, are sections of the jobs
pub record IsAssigned (p : Option GProgram.Program) (bound : ℕ) (j : Jobs) : Type 0 where
  pub program : p ≡ Some j.program.now
  pub steps : bound ≡ j.bound

-- all but what is held is as it was
pub record KeepsJobs (old new : Jobs) : Type 0 where
  pub program : new.program.now ≡ old.program.now
  pub items : (names : Names) → items_of names new ≡ items_of names old
  pub serves : (names : Names) → Serves names old → Serves names new
  pub bound : new.bound ≡ old.bound

-- what becomes of a job whose cells the definition copies so: it stands behind the others, or its fault comes; of want of memory
-- nothing is said
abbrev pub SubmitsAs : Names → (new : Jobs) → Result (Unit {0}) (Stop Fault) → List M.Job → (number : ℕ) → (out : List ℕ) → (job : List Value → M.Job) → Answer (List Value) → Type 0
SubmitsAs names new (Ok u) jobs n out job (Gives cells) = Holds names new (jobs ++ job cells ∷ []) (suc n) (out ++ n ∷ [])
SubmitsAs names new (Ok u) jobs n out job (Faults fault) = ⊥
SubmitsAs names new (Ok u) jobs n out job NoAnswer = Unit {0}
SubmitsAs names new (Err Memory) jobs n out job a = Unit {0}
SubmitsAs names new (Err (Faulted fault)) jobs n out job (Gives cells) = ⊥
SubmitsAs names new (Err (Faulted fault)) jobs n out job (Faults other) = fault ≡ other
SubmitsAs names new (Err (Faulted fault)) jobs n out job NoAnswer = Unit {0}
