-- A program that is its own event program: the threads and the callbacks are in states that meet after as many steps.
use Rattle.std.proofs.Common.{◌≡◌, ◌⊎◌, inl, inr, ◌∙◌, ℕ, zero, suc, Bool, true, false, List, [], ◌∷◌, ◌++◌, length, Option, Some, None, refl, sym, ap, subst}
use Rattle.cpc_tree.specs.Syntax.{Function, Program}
use Rattle.cpc_tree.specs.Lists.{is_empty}
use Rattle.cpc_tree.specs.Typing.{function_named}
use Rattle.cpc_tree.specs.Points.{Point}
use Rattle.cpc_tree.specs.Trace.{Told, Polled, Outcome, Going, Ended, Failed, HistoryEnded, BadHistory}
use Rattle.cpc_store.specs.Store.{Value, Store}
use Rattle.cpc_meaning_matching.specs.Steps.{or_stay}
use Rattle.cpc_meaning.specs.Answer.{Answer, Gives}
use Rattle.cpc_meaning.specs.Plain.{Form, Frame, Stack}
use Rattle.cpc_meaning.specs.Trees.{trees}
use Rattle.cpc_meaning.specs.Agenda.{Due, begin_round, needs_poll, completed, out, not_out, poll}
use Rattle.cpc_meaning.specs.History.{History}
use Rattle.cpc_meaning.specs.Copies.{Collected, AllGave, NotClear, collect}
use Rattle.cpc_meaning.specs.Machine.{State, ends, with_agenda, polled, takes_poll, next_poll, next_round, turns_where, turns, schedules, code_step, step_running, fault_function, settled, unless_over, next}
use Rattle.cpc_meaning.specs.Start.{opening, before_underscores, main_name}
use Rattle.cpc_meaning.specs.Threads.{Thread, Pending, shown_in, threads_of, threaded}
use Rattle.cpc_meaning.specs.Events.{Callback, CallMain, callbacks_of, event}
use Rattle.cpc_meaning.proofs.Both as B
use Rattle.cpc_meaning.proofs.Both.{Both, both_length, both_empty}
use Rattle.cpc_meaning.proofs.Agendas.{SameDue, begins, polls_same, polled as same_polled, outs}
use Rattle.cpc_meaning.proofs.Meeting.{BothGive, BothFault, BothStick, BothSome, SomeBoth, NoneBoth}
use Rattle.cpc_check_laws.specs.Run.Plain.{is_plain}
use Rattle.cpc_check_laws.proofs.Run.Stands.{shown_alike, nothing_shown}
use Rattle.cpc_check_laws.proofs.Run.Meeting.{OfMain, TheMain, StatesMeet, Meet, Steps, agendas, ends_meet, code_step_meet, starts_meet}

module _ (p : Program) (plain_program : is_plain p ≡ true) where
  abbrev f : Form Point
  f = trees p

  -- ---- the scheduler

  -- where no section is out, none fails
  collects : (bound : ℕ) (ns : List ℕ) (s : Store) → (collect f bound [] ns s ≡ AllGave [] s) ⊎ (collect f bound [] ns s ≡ NotClear)
  collects bound [] s = inl refl
  collects bound (n ∷ ns) s = inr refl

  polled_meet : (told : Told) (x : State Point (Thread Point)) (y : State Point Callback) → StatesMeet x y → (c : Collected) → (s : Store) → (c ≡ AllGave [] s) ⊎ (c ≡ NotClear) → Steps (polled (threads_of f) told x c) (polled (callbacks_of f) told y c)
  polled_meet told _ _ (Meet s k a b h tr o g) c t (inl e) =
      subst (λ d. Steps (polled (threads_of f) told (record { store = s; running = k; agenda = a; jobs = []; history = h; trace = tr; outcome = o }) d) (polled (callbacks_of f) told (record { store = s; running = k; agenda = b; jobs = []; history = h; trace = tr; outcome = o }) d)) (sym e)
      (BothGive _ _ (Meet t k (begin_round (poll told [] a)) (begin_round (poll told [] b)) h tr o (begins OfMain _ _ (same_polled OfMain told [] a b g))))
  polled_meet told x y m c t (inr e) = subst (λ d. Steps (polled (threads_of f) told x d) (polled (callbacks_of f) told y d)) (sym e) BothStick

  takes_poll_meet : (told : Told) (polls : List Told) (x : State Point (Thread Point)) (y : State Point Callback) → StatesMeet x y → (n : Option ℕ) → Steps (takes_poll (threads_of f) x told polls n) (takes_poll (callbacks_of f) y told polls n)
  takes_poll_meet told polls x y m (Some n) = BothGive _ _ (ends_meet (BadHistory n) x y m)
  takes_poll_meet told polls _ _ (Meet s k a b h tr o g) None =
      polled_meet told _ _ (Meet s k a b (record h { polls = polls }) (tr ++ Polled told ∷ []) o g) (collect f h.section_bound [] (completed told.events) s) s (collects h.section_bound (completed told.events) s)

  outs_same : (x : State Point (Thread Point)) (y : State Point Callback) → StatesMeet x y → out x.agenda ≡ out y.agenda
  outs_same _ _ (Meet s k a b h tr o g) = outs OfMain _ _ g.sections

  next_poll_meet : (polls : List Told) (x : State Point (Thread Point)) (y : State Point Callback) → StatesMeet x y → Steps (next_poll (threads_of f) x polls) (next_poll (callbacks_of f) y polls)
  next_poll_meet [] x y m = BothGive _ _ (ends_meet HistoryEnded x y m)
  next_poll_meet (told ∷ polls) x y m =
      subst (λ n. Steps (takes_poll (threads_of f) x told polls (not_out (completed told.events) (out x.agenda))) (takes_poll (callbacks_of f) y told polls n))
      (ap (not_out (completed told.events)) (outs_same x y m)) (takes_poll_meet told polls x y m (not_out (completed told.events) (out x.agenda)))

  turned : (x : State Point (Thread Point)) (y : State Point Callback) → StatesMeet x y → (n : Bool) → StatesMeet (next_round x n) (next_round y n)
  turned _ _ (Meet s k a b h tr o g) true =
      let x : State Point (Thread Point) = record { store = s; running = k; agenda = a; jobs = []; history = h; trace = tr; outcome = o } in
      let y : State Point Callback = record { store = s; running = k; agenda = b; jobs = []; history = h; trace = tr; outcome = o } in
      subst (λ n. StatesMeet (ends (Ended (length a.waiters)) x) (ends (Ended n) y)) (both_length _ _ g.waiters) (Meet s k a b h tr (Ended (length a.waiters)) g)
  turned _ _ (Meet s k a b h tr o g) false = Meet s k (begin_round a) (begin_round b) h tr o (begins OfMain a b g)

  turns_where_meet : (x : State Point (Thread Point)) (y : State Point Callback) → StatesMeet x y → (n : Bool) → Steps (turns_where (threads_of f) x n) (turns_where (callbacks_of f) y n)
  turns_where_meet _ _ (Meet s k a b h tr o g) true = next_poll_meet h.polls _ _ (Meet s k a b h tr o g)
  turns_where_meet x y m false =
      subst (λ n. Steps (Gives (next_round x (is_empty x.agenda.ready))) (Gives (next_round y n))) (both_empty _ _ (agendas x y m).ready) (BothGive _ _ (turned x y m (is_empty x.agenda.ready)))

  turns_meet : (x : State Point (Thread Point)) (y : State Point Callback) → StatesMeet x y → Steps (turns (threads_of f) x) (turns (callbacks_of f) y)
  turns_meet x y m = subst (λ n. Steps (turns_where (threads_of f) x (needs_poll x.agenda)) (turns_where (callbacks_of f) y n)) (polls_same OfMain _ _ (agendas x y m)) (turns_where_meet x y m (needs_poll x.agenda))

  rounds : (xs : List (Due (Thread Point))) (ys : List (Due Callback)) (x : State Point (Thread Point)) (y : State Point Callback) → Both (SameDue OfMain) xs ys → StatesMeet x y
      → StatesMeet (with_agenda x (record x.agenda { round = xs })) (with_agenda y (record y.agenda { round = ys }))
  rounds xs ys _ _ r (Meet s k a b h tr o g) = Meet s k _ _ h tr o (record {
    ready = g.ready;
    round = r;
    waiters = g.waiters;
    descriptors = g.descriptors;
    timers = g.timers;
    sections = g.sections;
    live = g.live;
    now = g.now;
    conditions_made = g.conditions_made;
    timers_made = g.timers_made;
    sections_made = g.sections_made;
  })

  schedules_meet : (xs : List (Due (Thread Point))) (ys : List (Due Callback)) (x : State Point (Thread Point)) (y : State Point Callback) → Both (SameDue OfMain) xs ys → StatesMeet x y → Steps (schedules (threads_of f) x xs) (schedules (callbacks_of f) y ys)
  schedules_meet _ _ x y B.Ends m = turns_meet x y m
  schedules_meet _ _ x y (B.Goes d e xs ys r rs) m = starts_meet p d.item e.item r.item d.result e.result _ _ (rounds xs ys x y rs m)

  -- ---- what a step comes to

  settled_meet : (x : State Point (Thread Point)) (y : State Point Callback) → StatesMeet x y → shown_in p (fault_function x.running) ≡ before_underscores (fault_function y.running)
      → (u : Answer (State Point (Thread Point))) (w : Answer (State Point Callback)) → Steps u w → BothSome StatesMeet (settled (threads_of f) x u) (settled (callbacks_of f) y w)
  settled_meet x y m e _ _ (BothGive s t r) = SomeBoth s t r
  settled_meet x y m e _ _ (BothFault fault) = subst (λ n. BothSome StatesMeet (Some (ends (Failed fault (shown_in p (fault_function x.running))) x)) (Some (ends (Failed fault n) y))) e (SomeBoth _ _ (ends_meet (Failed fault (shown_in p (fault_function x.running))) x y m))
  settled_meet x y m e _ _ BothStick = NoneBoth

  -- a stack whose innermost frame is of no function of the program has no step
  runs_nothing : (frame : Frame Point) (below : List (Frame Point)) (o : Option Value) → function_named p frame.function ≡ None → (x : State Point (Thread Point)) (y : State Point Callback)
      → BothSome StatesMeet (settled (threads_of f) x (code_step (threads_of f) x (record { frames = frame ∷ below; arriving = o }))) (settled (callbacks_of f) y (code_step (callbacks_of f) y (record { frames = frame ∷ below; arriving = o })))
  runs_nothing frame below o e x y = simp (e) NoneBoth

  abbrev Ran : Stack Point → State Point (Thread Point) → State Point Callback → Type 0
  Ran k x y = BothSome StatesMeet (settled (threads_of f) x (code_step (threads_of f) x k)) (settled (callbacks_of f) y (code_step (callbacks_of f) y k))

  framed : (frame : Frame Point) (below : List (Frame Point)) (arriving : Option Value) (x : State Point (Thread Point)) (y : State Point Callback) → StatesMeet x y
      → fault_function x.running ≡ frame.function → fault_function y.running ≡ frame.function
      → (fn : Option Function) → function_named p frame.function ≡ fn → Ran (record { frames = frame ∷ below; arriving = arriving }) x y
  framed frame below arriving x y m i j None e = runs_nothing frame below arriving e x y
  framed frame below arriving x y m i j (Some fn) e =
      let shown : shown_in p (fault_function x.running) ≡ before_underscores (fault_function y.running) = ap (shown_in p) i ∙ shown_alike p plain_program frame.function fn e ∙ ap before_underscores (sym j) in
      settled_meet x y m shown _ _ (code_step_meet p plain_program (record { frames = frame ∷ below; arriving = arriving }) x y m)

  running_meet : (frames : List (Frame Point)) (arriving : Option Value) (x : State Point (Thread Point)) (y : State Point Callback) → StatesMeet x y
      → x.running ≡ Some (record { frames = frames; arriving = arriving }) → y.running ≡ Some (record { frames = frames; arriving = arriving })
      → Ran (record { frames = frames; arriving = arriving }) x y
  running_meet [] arriving x y m i j = NoneBoth
  running_meet (frame ∷ below) arriving x y m i j = framed frame below arriving x y m (ap fault_function i) (ap fault_function j) (function_named p frame.function) refl

  stepped : (x : State Point (Thread Point)) (y : State Point Callback) → StatesMeet x y → BothSome StatesMeet (settled (threads_of f) x (step_running (threads_of f) x x.running)) (settled (callbacks_of f) y (step_running (callbacks_of f) y y.running))
  stepped _ _ (Meet s None a b h tr o g) = settled_meet _ _ (Meet s None a b h tr o g) (nothing_shown p) _ _ (schedules_meet _ _ _ _ g.round (Meet s None a b h tr o g))
  stepped _ _ (Meet s (Some k) a b h tr o g) = running_meet k.frames k.arriving _ _ (Meet s (Some k) a b h tr o g) refl refl

  unless_meet : (o : Outcome) (u : Option (State Point (Thread Point))) (w : Option (State Point Callback)) → BothSome StatesMeet u w → BothSome StatesMeet (unless_over o u) (unless_over o w)
  unless_meet Going u w r = r
  unless_meet _ u w r = NoneBoth

  -- the two machines step as one
  next_meet : (x : State Point (Thread Point)) (y : State Point Callback) → StatesMeet x y → BothSome StatesMeet (next (threads_of f) x) (next (callbacks_of f) y)
  next_meet _ _ (Meet s k a b h tr o g) = unless_meet o _ _ (stepped _ _ (Meet s k a b h tr o g))

  -- ---- runs

  opens : (h : History) → StatesMeet (opening p (Pending main_name []) h) (opening p CallMain h)
  opens h = Meet _ None _ _ h [] Going
      (record {
        ready = B.Goes _ _ [] [] (record { item = TheMain; result = refl }) B.Ends;
        round = B.Ends;
        waiters = B.Ends;
        descriptors = B.Ends;
        timers = B.Ends;
        sections = B.Ends;
        live = refl;
        now = refl;
        conditions_made = refl;
        timers_made = refl;
        sections_made = refl;
      })

  step_meets : (x : State Point (Thread Point)) (y : State Point Callback) (u : Option (State Point (Thread Point))) (w : Option (State Point Callback)) → StatesMeet x y → BothSome StatesMeet u w → StatesMeet (or_stay x u) (or_stay y w)
  step_meets x y _ _ r (SomeBoth u w i) = i
  step_meets x y _ _ r NoneBoth = r

  -- the states after n steps meet
  pub plain_meet : (h : History) (n : ℕ) → StatesMeet (threaded p h n) (event p h n)
  plain_meet h zero = opens h
  plain_meet h (suc n) = let r = plain_meet h n in step_meets _ _ _ _ r (next_meet _ _ r)

  -- nothing but items differs
  pub record SameStore (x : State Point (Thread Point)) (y : State Point Callback) : Type 0 where
    pub store : y.store ≡ x.store
    pub running : y.running ≡ x.running
    pub trace : x.trace ≡ y.trace
    pub outcome : x.outcome ≡ y.outcome

  same_store : (x : State Point (Thread Point)) (y : State Point Callback) → StatesMeet x y → SameStore x y
  same_store _ _ (Meet s k a b h tr o g) = record { store = refl; running = refl; trace = refl; outcome = refl }

  pub plain_same : (h : History) (n : ℕ) → SameStore (threaded p h n) (event p h n)
  plain_same h n = same_store _ _ (plain_meet h n)
