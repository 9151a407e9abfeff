-- What is known of each state of the lifted run of an accepted program, of values that arrive and of calls that are to begin.
use Rattle.std.proofs.Common.{◌≡◌, true, List, ◌∷◌, Option, Some, None, subst}
use Rattle.std.specs.List.{All}
use Rattle.std.proofs.lemmas.List.Elements.{All-head, All-weaker}
use Rattle.cpc_tree.specs.Located.{bare}
use Rattle.cpc_tree.specs.Syntax.{Program}
use Rattle.cpc_store.specs.Store.{Value}
use Rattle.cpc_meaning.specs.Agenda.{Due}
use Rattle.cpc_meaning.specs.Machine.{State}
use Rattle.cpc_meaning.specs.Plain.{Frame}
use Rattle.cpc_meaning.specs.Threads.{Thread, Pending}
use Rattle.cpc_check_laws.specs.Kept.Fits.{IsInt}
use Rattle.cpc_forms.specs.Split.{Position, split_form}
use Rattle.cpc_lifted_laws.specs.Accepted.Known.{Stays, FineFrame, FineThread, FineState}
use Rattle.cpc_lifted_laws.specs.Accepted.Lifted.{kept_of, lifted_after}
use Rattle.cpc_lifted_laws.proofs.Accepted.Known.{accepted_is_fine}
use Rattle.cpc_lifted_laws.specs.Native.Instance.{may_be}
use Rattle.cpc_lifted_laws.proofs.Native.Arriving.{frames_may_be}
use Rattle.cpc_lifted_laws.specs.Arrival.Arrivals.{TakesFirst, StateTakes}
use Rattle.cpc_lifted_laws.specs.Arrival.Taken.{TakesPosition, RunsWell}
use Rattle.cpc_lifted_laws.specs.Arrival.Laws.{AcceptedTakes, AcceptedRunsWell}
use Rattle.cpc_lifted_laws.proofs.Arrival.Runs.{Ints, run_takes}
use Rattle.cpc_lifted_laws.proofs.Arrival.Split.{programs_take}

-- an item that is due, with its result
abbrev DueFine : Program → Due (Thread Position) → Type 0
DueFine p d = FineThread p (Stays p) d.item × IsInt d.result

results : (p : Program) (s : State Position (Thread Position)) → FineState p (Stays p) s → Ints (split_form p) (TakesPosition p) s.agenda.round
results p s fine = All-weaker (DueFine p) (λ (d : Due (Thread Position)). IsInt d.result) (λ d h. h.1) s.agenda.round fine.agenda.round

pub accepted_takes : AcceptedTakes
accepted_takes list end p read unbroken h n =
    run_takes (split_form (bare p)) (TakesPosition (bare p)) (programs_take (bare p)) (kept_of (bare p)) h (λ m. results (bare p) (lifted_after (bare p) h m) (accepted_is_fine list end p read unbroken h m)) n

-- the first that is due
first_due : (p : Program) (s : State Position (Thread Position)) → FineState p (Stays p) s → (d : Due (Thread Position)) (ds : List (Due (Thread Position))) → s.agenda.round ≡ d ∷ ds → DueFine p d
first_due p s fine d ds e = All-head (DueFine p) d ds (subst (All (DueFine p)) e fine.agenda.round)

runs_well : (p : Program) (s : State Position (Thread Position)) → FineState p (Stays p) s → StateTakes (split_form p) (TakesPosition p) s
    → ((frame : Frame Position) (below : List (Frame Position)) (o : Option Value) → s.running ≡ Some (record { frames = frame ∷ below; arriving = o }) → may_be p frame.function frame.point ≡ true) → RunsWell p s
runs_well p s fine takes may = record {
  running = λ frame below o e.
      let stack = fine.running _ e in
      record {
        variables = All-head (FineFrame p (Stays p)) frame below stack.frames;
        may = may frame below o e;
        held = stack.arriving;
        takes = λ v i. arriving frame below o (takes.running _ e).arriving v i;
      };
  result = λ d ds e. (first_due p s fine d ds e).1;
  arguments = λ f vs v ds e. let item = (first_due p s fine (record { item = Pending f vs; result = v }) ds e).0 in record { fit = item.0; held = item.1 };
  begins = λ f vs v ds e. (first_due p s fine (record { item = Pending f vs; result = v }) ds e).0.2;
}
  where
    arriving : (frame : Frame Position) (below : List (Frame Position)) (o : Option Value) → TakesFirst (split_form p) (TakesPosition p) (frame ∷ below) o → (v : Value) → o ≡ Some v → TakesPosition p frame.function frame.point v
    arriving frame below None h v i = absurd (cc)
    arriving frame below (Some u) h v i = let same : u ≡ v = cc in subst (TakesPosition p frame.function frame.point) same h

pub accepted_runs_well : AcceptedRunsWell
accepted_runs_well list end p read unbroken h n =
    runs_well (bare p) (lifted_after (bare p) h n) (accepted_is_fine list end p read unbroken h n) (accepted_takes list end p read unbroken h n) (λ frame below o e. frames_may_be (bare p) h n frame below o e)
