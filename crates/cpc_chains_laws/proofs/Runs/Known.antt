-- What the rows take for known is so of states of the lifted run of an accepted program in which each call that is to begin is of a cps function.
use Rattle.std.proofs.Common.{◌≡◌, ℕ, List, [], ◌∷◌}
use Rattle.std.specs.List.{All}
use Rattle.std.proofs.lemmas.List.Elements.{All-nil, All-cons, All-head, All-tail}
use Rattle.cpc_base.specs.Bytes.{Text}
use Rattle.cpc_store.specs.Store.{Value}
use Rattle.cpc_tree.specs.Syntax.{Program}
use Rattle.cpc_meaning.specs.Agenda.{Due}
use Rattle.cpc_meaning.specs.History.{History}
use Rattle.cpc_meaning.specs.Section.{Job}
use Rattle.cpc_meaning.specs.Threads.{Thread, Pending}
use Rattle.cpc_forms.specs.Split.{Position, split_form}
use Rattle.cpc_lifted_laws.specs.Related.Bounds.{Bounds}
use Rattle.cpc_chains_laws.proofs.Related.Setting.{HeldJob, Known}
use Rattle.cpc_lifted_laws.specs.Known.Jobs.{SectionsTake, JobsFine}
use Rattle.cpc_lifted_laws.proofs.Known.BoxRuns.{lifted_boxes_stay}
use Rattle.cpc_lifted_laws.proofs.Known.JobRuns.{jobs_fine}
use Rattle.cpc_lifted_laws.specs.Accepted.Known.{Stays, FineJob, FineState}
use Rattle.cpc_lifted_laws.specs.Accepted.Lifted.{kept_of, lifted_after}
use Rattle.cpc_lifted_laws.specs.Native.Instance.{NamesDetached}
use Rattle.cpc_chains_laws.proofs.Piece.Onwards.{z}
use Rattle.cpc_lifted_laws.specs.Arrival.Taken.{IsFine, RunsWell}
use Rattle.cpc_lifted_laws.specs.Runs.Runs.{NamesCps, CallsCps}

module _ (p : Program) (bounds : Bounds) where
  jobs_held : (js : List Job) → All (FineJob (Stays p)) js → JobsFine (NamesDetached p) js → All (HeldJob (z p (IsFine p) (CallsCps p) bounds)) js
  jobs_held [] held are = All-nil (HeldJob (z p (IsFine p) (CallsCps p) bounds))
  jobs_held (j ∷ js) held are =
      All-cons (HeldJob (z p (IsFine p) (CallsCps p) bounds)) j js
      (record { function = are.0.function; arguments = are.0.arguments; cells = are.0.cells; pointer = (All-head (FineJob (Stays p)) j js held).pointer })
      (jobs_held js (All-tail (FineJob (Stays p)) j js held) are.1)

  pub state_known : SectionsTake (split_form p) (NamesDetached p) → (h : History) (n : ℕ) → FineState p (Stays p) (lifted_after p h n) → (well : RunsWell p (lifted_after p h n))
      → ((f : Text) (vs : List Value) (v : Value) (ds : List (Due (Thread Position))) → (lifted_after p h n).agenda.round ≡ record { item = Pending f vs; result = v } ∷ ds → NamesCps p f)
      → Known (z p (IsFine p) (CallsCps p) bounds) (lifted_after p h n)
  state_known sections h n fine well cps = record {
    store = fine.store;
    jobs = jobs_held (lifted_after p h n).jobs fine.jobs (jobs_fine (split_form p) (NamesDetached p) sections (kept_of p) h n);
    boxes = lifted_boxes_stay (split_form p) (kept_of p) h n;
    running = well.running;
    result = well.result;
    arguments = λ f vs v ds e. (well.arguments f vs v ds e, cps f vs v ds e);
  }
