-- Each step of threads keeps that each frame takes what is to arrive at it.
use Rattle.std.proofs.Common.{◌≡◌, ℕ, Bool, List, [], ◌∷◌, map, Option, Some, None, refl, subst}
use Rattle.std.specs.List.{All}
use Rattle.std.proofs.lemmas.List.Elements.{All-head}
use Rattle.cpc_base.specs.Bytes.{Text}
use Rattle.cpc_store.specs.Store.{Value, Store}
use Rattle.cpc_meaning_matching.specs.Systems.{run}
use Rattle.cpc_meaning.specs.Agenda.{Due, Agenda, new_agenda}
use Rattle.cpc_meaning.specs.Answer.{Gives}
use Rattle.cpc_meaning.specs.History.{History}
use Rattle.cpc_meaning.specs.Machine.{State}
use Rattle.cpc_meaning.specs.Plain.{Form, Frame, Stack, stack_of, Asks, plain, waiting}
use Rattle.cpc_meaning.specs.Requests.{Asked}
use Rattle.cpc_meaning.specs.Section.{Job}
use Rattle.cpc_meaning.specs.Start.{main_name}
use Rattle.cpc_meaning.specs.Threads.{Thread, Pending, Suspended}
use Rattle.cpc_meaning_laws.proofs.Pointer.Blocks.{Only}
use Rattle.cpc_check_laws.specs.Kept.Fits.{IsInt}
use Rattle.cpc_check_laws.proofs.Kept.Agendas as A
use Rattle.cpc_lift_laws.specs.Lifted.{tidy_frame, tidy_running, lifted_system}
use Rattle.cpc_lifted_laws.specs.Accepted.Moves.{IsReady, IsKept}
use Rattle.cpc_lifted_laws.specs.Arrival.Arrivals.{AnyValue, CodeTakes, TakesFirst, TakesInts, StackTakes, ThreadTakes, StateTakes}
use Rattle.cpc_lifted_laws.proofs.Accepted.Agendas.{Lists, shuffled_lists, added_lists, first_lists, later_lists}
use Rattle.cpc_lifted_laws.proofs.Accepted.Walk.{run_so}
use Rattle.cpc_lifted_laws.proofs.Arrival.Acts.{Links, WaitsWell, AskedTakes, DoneTakes, answered_take, waiting_take, plain_take}

module _ {P : Type 0} (p : Form P) (Takes : Text → P → Value → Type 0) where
  abbrev Fine : Thread P → Type 0
  Fine x = ThreadTakes p Takes x

  -- the stack that runs, if there is one
  abbrev RunsWell : Option (Stack P) → Type 0
  RunsWell o = (k : Stack P) → o ≡ Some k → StackTakes p Takes k

  -- it takes what is to arrive at it, and so do those that wait
  abbrev TakesIn : Store → Option (Stack P) → Agenda (Thread P) → List Job → Type 0
  TakesIn s o a jobs = RunsWell o × Lists Fine a

  abbrev AskedIn : Store → Stack P → Asked → List Value → Type 0
  AskedIn s k asked vs = AskedTakes p Takes k.frames asked

  none_runs : RunsWell None
  none_runs k e = absurd (cc)

  one_runs : (k : Stack P) → StackTakes p Takes k → RunsWell (Some k)
  one_runs k h j e = let same : k ≡ j = cc in subst (StackTakes p Takes) same h

  first_takes : (frames : List (Frame P)) (v : Value) → TakesInts p Takes frames → IsInt v → TakesFirst p Takes frames (Some v)
  first_takes [] v h i = tt
  first_takes (frame ∷ below) v h i = h v i

  waits : (k j : Stack P) → Links p Takes k.frames → WaitsWell p Takes k.frames → waiting p k ≡ Gives j → Fine (Suspended j)
  waits k j l w e = subst (Only (λ (j : Stack P). Links p Takes j.frames × TakesInts p Takes j.frames)) e (waiting_take p Takes k l w)

  as_state : (s : State P (Thread P)) → TakesIn s.store s.running s.agenda s.jobs → StateTakes p Takes s
  as_state s h = record { running = h.0; agenda = h.1 }

  -- the results that are due
  abbrev pub Ints : List (Due (Thread P)) → Type 0
  Ints round = All (λ (d : Due (Thread P)). IsInt d.result) round

  module _ (code : CodeTakes p Takes) where
    kept : IsKept p TakesIn AskedIn IsInt
    kept = record {
      went = λ s t k j a jobs e h. let w : Links p Takes k.frames → StackTakes p Takes j = subst (Only (DoneTakes p Takes k.frames)) e (plain_take p Takes code s k) in (one_runs j (w (h.0 k refl).linked), h.1);
      returned = λ s t k v a jobs e h. (none_runs, h.1);
      answered = λ s t k j v a jobs e h. let w : Links p Takes k.frames → StackTakes p Takes j = subst (Only (DoneTakes p Takes k.frames)) e (answered_take p Takes s k v) in (one_runs j (w (h.0 k refl).linked), h.1);
      stores = λ s t o a jobs same h. h;
      shuffled = λ s o a b jobs move h. (h.0, shuffled_lists Fine a b move h.1);
      spawned = λ s k a jobs f vs asks h. (h.0, added_lists Fine (Pending f vs) a _ tt (IsReady a) h.1);
      suspended = λ s k j a b jobs prim vs gives asks e add h. (none_runs, added_lists Fine (Suspended j) a b (waits k j (h.0 k refl).linked (asks gives) e) add h.1);
      submitted = λ s k j a b jobs f g vs cells e add is asks copy h. (none_runs, added_lists Fine (Suspended j) a b (waits k j (h.0 k refl).linked asks e) add h.1);
      begun = λ s t a jobs f g vs v ds frame e is made h. (one_runs (stack_of frame) (record { linked = (tt, tt); arriving = tt }), later_lists Fine _ ds a e h.1);
      resumed = λ s k v a jobs ds e int h.
          let i : Links p Takes k.frames × TakesInts p Takes k.frames = first_lists Fine (record { item = Suspended k; result = v }) ds a e h.1 in
          (one_runs (record k { arriving = Some v }) (record { linked = i.0; arriving = first_takes k.frames v i.1 int }), later_lists Fine _ ds a e h.1);
    }

    asks_take : (s : State P (Thread P)) (k : Stack P) → s.running ≡ Some k → (asked : Asked) (vs : List Value) → plain p s.store k ≡ Gives (Asks (record { asked = asked; arguments = vs })) → AskedIn s.store k asked vs
    asks_take s k e asked vs i = subst (Only (DoneTakes p Takes k.frames)) i (plain_take p Takes code s.store k)

    due_ints : (s : State P (Thread P)) → Ints s.agenda.round → (d : Due (Thread P)) (ds : List (Due (Thread P))) → s.agenda.round ≡ d ∷ ds → IsInt d.result
    due_ints s ints d ds e = All-head (λ (d : Due (Thread P)). IsInt d.result) d ds (subst Ints e ints)

    -- ---- runs of the lifted machine

    module _ (kept_in : Text → P → ℕ → Bool) where
      tidy_links : (frames : List (Frame P)) → Links p Takes frames → Links p Takes (map (tidy_frame kept_in) frames)
      tidy_links [] h = tt
      tidy_links (frame ∷ []) h = h
      tidy_links (frame ∷ next ∷ below) h = (h.0, tidy_links (next ∷ below) h.1)

      tidy_first : (frames : List (Frame P)) (o : Option Value) → TakesFirst p Takes frames o → TakesFirst p Takes (map (tidy_frame kept_in) frames) o
      tidy_first [] o h = tt
      tidy_first (frame ∷ below) None h = tt
      tidy_first (frame ∷ below) (Some v) h = h

      tidy_running_takes : (o : Option (Stack P)) → ((k : Stack P) → o ≡ Some k → StackTakes p Takes k) → (k : Stack P) → tidy_running kept_in o ≡ Some k → StackTakes p Takes k
      tidy_running_takes None h k e = absurd (cc)
      tidy_running_takes (Some j) h k e =
          let i = h j refl in
          let tidied : StackTakes p Takes (record j { frames = map (tidy_frame kept_in) j.frames }) = record { linked = tidy_links j.frames i.linked; arriving = tidy_first j.frames j.arriving i.arriving } in
          let same : record j { frames = map (tidy_frame kept_in) j.frames } ≡ k = cc in
          subst (StackTakes p Takes) same tidied

      -- where the results that are due are ints, each frame of each state takes what is to arrive at it
      pub run_takes : (h : History) → ((n : ℕ) → Ints (run (lifted_system kept_in p h) n).agenda.round) → (n : ℕ) → StateTakes p Takes (run (lifted_system kept_in p h) n)
      run_takes h ints n =
          as_state (run (lifted_system kept_in p h) n)
          (run_so p TakesIn AskedIn IsInt kept kept_in (λ s h. (tidy_running_takes s.running h.0, h.1)) h
          (none_runs, added_lists Fine (Pending main_name []) new_agenda _ tt (IsReady new_agenda) (A.nothing_there Fine AnyValue tt))
          (λ n. asks_take (run (lifted_system kept_in p h) n)) (λ n. due_ints (run (lifted_system kept_in p h) n) (ints n)) n)
