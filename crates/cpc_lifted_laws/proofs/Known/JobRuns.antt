-- Each step of threads keeps the sections that are out as they are, or submits one that runs a function for that, on integers.
use Rattle.std.proofs.Common.{◌≡◌, ℕ, Bool, true, List, [], ◌∷◌, ◌++◌, Option, Some, subst}
use Rattle.cpc_base.specs.Bytes.{Text}
use Rattle.cpc_store.specs.Store.{Value, Unset, Store}
use Rattle.cpc_tree.specs.Lists.{first_or}
use Rattle.cpc_meaning_matching.specs.Systems.{run}
use Rattle.cpc_meaning.specs.Agenda.{Agenda}
use Rattle.cpc_meaning.specs.Answer.{Gives}
use Rattle.cpc_meaning.specs.History.{History}
use Rattle.cpc_meaning.specs.Machine.{State}
use Rattle.cpc_meaning.specs.Plain.{Form, Stack, Asks, plain}
use Rattle.cpc_meaning.specs.Requests.{Asked}
use Rattle.cpc_meaning.specs.Section.{Job}
use Rattle.cpc_meaning.specs.Threads.{Thread}
use Rattle.cpc_meaning_laws.proofs.Pointer.Blocks.{Only}
use Rattle.cpc_lift_laws.specs.Lifted.{lifted_system}
use Rattle.cpc_lifted_laws.specs.Accepted.Moves.{IsKept}
use Rattle.cpc_lifted_laws.specs.Arrival.Arrivals.{AnyValue}
use Rattle.cpc_lifted_laws.specs.Known.Jobs.{SectionsTake, JobFine, JobsFine}
use Rattle.cpc_lifted_laws.specs.Known.Laws.{LiftedJobsStay}
use Rattle.cpc_lifted_laws.proofs.Accepted.Walk.{run_so}
use Rattle.cpc_lifted_laws.proofs.Known.JobActs.{Ints, copy_ints, AskedFine, DoneFine, plain_fine}

-- one section more
jobs_more : (sections : Text → Type 0) (js : List Job) (j : Job) → JobsFine sections js → JobFine sections j → JobsFine sections (js ++ j ∷ [])
jobs_more sections [] j h i = (i, tt)
jobs_more sections (k ∷ js) j h i = (h.0, jobs_more sections js j h.1 i)

module _ {P : Type 0} (p : Form P) (sections : Text → Type 0) (take : SectionsTake p sections) where
  -- the sections that are out, whatever else there is
  abbrev Out : Store → Option (Stack P) → Agenda (Thread P) → List Job → Type 0
  Out s o a jobs = JobsFine sections jobs

  abbrev AskedOut : Store → Stack P → Asked → List Value → Type 0
  AskedOut s k asked vs = AskedFine p.program sections asked vs

  kept : IsKept p Out AskedOut AnyValue
  kept = record {
    went = λ s t k j a jobs e h. h;
    returned = λ s t k v a jobs e h. h;
    answered = λ s t k j v a jobs e h. h;
    stores = λ s t o a jobs same h. h;
    shuffled = λ s o a b jobs move h. h;
    spawned = λ s k a jobs f vs asks h. h;
    suspended = λ s k j a b jobs prim vs gives asks e add h. h;
    submitted = λ s k j a b jobs f g vs cells e add is asks copy h.
        let ints : Ints cells = subst (Only Ints) copy (copy_ints p.program g (first_or Unset vs) s (asks.2 g is)) in
        jobs_more sections jobs _ h (record { function = asks.0; arguments = asks.1.1; cells = ints; pointer = asks.1.0 });
    begun = λ s t a jobs f g vs v ds frame e is made h. h;
    resumed = λ s k v a jobs ds e due h. h;
  }

  asks_fine : (s : State P (Thread P)) (k : Stack P) → s.running ≡ Some k → (asked : Asked) (vs : List Value) → plain p s.store k ≡ Gives (Asks (record { asked = asked; arguments = vs })) → AskedOut s.store k asked vs
  asks_fine s k e asked vs i = subst (Only (DoneFine p sections take)) i (plain_fine p sections take s.store k)

  -- ---- runs of the lifted machine

  pub jobs_fine : (keeps : Text → P → ℕ → Bool) (h : History) (n : ℕ) → JobsFine sections (run (lifted_system keeps p h) n).jobs
  jobs_fine keeps h n = run_so p Out AskedOut AnyValue kept keeps (λ s h. h) h tt (λ n. asks_fine (run (lifted_system keeps p h) n)) (λ n d ds e. tt) n

pub lifted_jobs_stay : {P : Type 0} → LiftedJobsStay P
lifted_jobs_stay p is_section take kept h n = jobs_fine p (λ f. is_section f ≡ true) take kept h n
