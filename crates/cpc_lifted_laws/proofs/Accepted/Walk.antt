-- The steps of threads as a few moves: what each move keeps holds of all states of their runs.
use Rattle.std.proofs.Common.{◌≡◌, ℕ, zero, suc, pos, Bool, true, false, List, [], ◌∷◌, ◌++◌, Option, Some, None, option_map, Result, Ok, Err, refl, sym, subst}
use Rattle.std.specs.Fmt.{signed_decimal}
use Rattle.cpc_base.specs.Bytes.{Text}
use Rattle.cpc_num.specs.declared.kinds.Fault.{Fault}
use Rattle.cpc_num.specs.declared.kinds.Kind.TheVariants.{Long}
use Rattle.cpc_store.specs.declared.values.Class.TheVariants.{Heap}
use Rattle.cpc_store.specs.Store.{Value, Unset, Whole, Cond, Store}
use Rattle.cpc_tree.specs.Lists.{is_empty, first_or, rest_of}
use Rattle.cpc_tree.specs.Primitives.{Primitive, Print, Putc, Puts, Now, CondNew, CondFree, Signal, SignalAll, Exit, Malloc, Free, Yield, Sleep, IoWait, Wait}
use Rattle.cpc_tree.specs.Trace.{Told, Output, HostCall, Sleeping, Waiting, Outcome, Going}
use Rattle.cpc_tree.specs.Typing.{function_named}
use Rattle.cpc_meaning.specs.Agenda.{Due, Agenda, begin_round, ready_one, cond_new, cond_free, signal, signal_all, wait, sleep, io, section, needs_poll, completed, out, not_out, poll}
use Rattle.cpc_meaning.specs.Answer.{Answer, Gives, Faults, NoAnswer, ◌>>=◌, of_result, needed}
use Rattle.cpc_meaning.specs.Copies.{copy_of, Collected, AllGave, OneFailed, NotClear, collect}
use Rattle.cpc_meaning.specs.Machine.{State, marks, with_agenda, with_store, after_done, reply, prints, int_of, cond_of, ints_of, first_answer, direction_of, replies, acts, primitive, host_call, asked_by, submits, polled, told_state, takes_poll, next_poll, next_round, turns_where, schedules, runs_on, step_running, settled, try_step, unless_over, next}
use Rattle.cpc_meaning.specs.Plain.{Form, Stack, Done, Went, Returned, Asks, make_frame, plain, answered, waiting}
use Rattle.cpc_meaning.specs.Requests.{Asked, Builtin, Host, ToSpawn, Section}
use Rattle.cpc_meaning.specs.Section.{Job, allocated, freed}
use Rattle.cpc_meaning.specs.Threads.{Thread, Pending, Suspended, starts_thread, suspends, thread_primitive, detaches_thread, threads_of}
use Rattle.cpc_meaning.specs.Start.{opening, main_name}
use Rattle.cpc_meaning.specs.History.{History}
use Rattle.cpc_meaning.proofs.Machines.{needed_is}
use Rattle.cpc_meaning_matching.specs.Steps.{or_stay}
use Rattle.cpc_meaning_matching.specs.Systems.{run}
use Rattle.cpc_meaning_laws.proofs.Pointer.Blocks.{Only, any_then}
use Rattle.cpc_check_rules.specs.Calls.{gives_up}
use Rattle.cpc_lift_laws.specs.Lifted.{tidy, lifted_system}
use Rattle.cpc_lifted_laws.specs.Accepted.Moves.{Shuffled, MadeCondition, FreedCondition, Signalled, SignalledAll, BeganRound, WasPolled, Added, IsReady, Sleeps, AwaitsIo, WaitsOn, AwaitsSection, SameLives, IsKept}
use Rattle.cpc_lifted_laws.proofs.Accepted.Lives.{allocated_lives, freed_lives, CollectedLives, collect_lives}

-- ---- answers

known_then : {A B : Type 0} (Fine : B → Type 0) (a : Answer A) (h : A → Answer B) → ((x : A) → a ≡ Gives x → Only Fine (h x)) → Only Fine (a >>= h)
known_then Fine (Gives x) h k = k x refl
known_then Fine (Faults fault) h k = tt
known_then Fine NoAnswer h k = tt

result_then : {A B : Type 0} (Fine : B → Type 0) (r : Result A Fault) (h : A → Answer B) → ((x : A) → r ≡ Ok x → Only Fine (h x)) → Only Fine (of_result r >>= h)
result_then Fine (Ok x) h k = k x refl
result_then Fine (Err fault) h k = tt

module _ {P : Type 0} (p : Form P) (I : Store → Option (Stack P) → Agenda (Thread P) → List Job → Type 0) (Asked_so : Store → Stack P → Asked → List Value → Type 0) (Due_so : Value → Type 0) (kept : IsKept p I Asked_so Due_so) where
  -- a state of which it holds
  abbrev pub Good : State P (Thread P) → Type 0
  Good s = I s.store s.running s.agenda s.jobs

  -- it would hold of a state in which this stack ran
  abbrev Over : Stack P → State P (Thread P) → Type 0
  Over k s = I s.store (Some k) s.agenda s.jobs

  -- ---- answers to requests

  reply_so : (k : Stack P) (v : Value) (s : State P (Thread P)) → Over k s → Only Good (reply p k v s)
  reply_so k v s h = known_then Good (answered p s.store k v) (after_done s) go
    where
      go : (d : Done P) → answered p s.store k v ≡ Gives d → Only Good (after_done s d)
      go (Went t j) e = kept.answered s.store t k j v s.agenda s.jobs e h
      go (Returned w t) e = tt
      go (Asks r) e = tt

  prints_so : (k : Stack P) (bytes : Text) (s : State P (Thread P)) → Over k s → Only Good (prints p k bytes s)
  prints_so k bytes s h = reply_so k Unset (marks (Output bytes) s) h

  replies_so : (k : Stack P) (act : Answer (Store × Value)) (s : State P (Thread P)) → Only (λ (r : Store × Value). SameLives s.store r.0) act → Over k s → Only Good (replies p k act s)
  replies_so k act s same h =
      known_then Good act _ λ r e. reply_so k r.1 (with_store s r.0) (kept.stores s.store r.0 (Some k) s.agenda s.jobs (subst (Only (λ (r : Store × Value). SameLives s.store r.0)) e same) h)

  acts_so : (k : Stack P) (r : Result (Agenda (Thread P)) Fault) (s : State P (Thread P)) → ((b : Agenda (Thread P)) → r ≡ Ok b → Shuffled s.agenda b) → Over k s → Only Good (acts p k r s)
  acts_so k r s move h = result_then Good r _ λ b e. reply_so k Unset (with_agenda s b) (kept.shuffled s.store (Some k) s.agenda b s.jobs (move b e) h)

  -- ---- waits

  suspends_so : (prim : Primitive) (vs : List Value) (k j : Stack P) (s : State P (Thread P)) (r : Result (Agenda (Thread P)) Fault) → gives_up prim ≡ true → Asked_so s.store k (Builtin prim) vs → waiting p k ≡ Gives j → ((b : Agenda (Thread P)) → r ≡ Ok b → Added (Suspended j) s.agenda b) → Over k s → Only Good (suspends s r)
  suspends_so prim vs k j s r gives asks e add h = result_then Good r _ λ b i. kept.suspended s.store k j s.agenda b s.jobs prim vs gives asks e (add b i) h

  own_so : (prim : Primitive) (vs : List Value) (k : Stack P) (s : State P (Thread P)) → Asked_so s.store k (Builtin prim) vs → Over k s → Only Good (thread_primitive p prim vs k s)
  own_so Yield [] k s asks h = known_then Good (waiting p k) _ λ j e. kept.suspended s.store k j s.agenda (ready_one (Suspended j) s.agenda) s.jobs Yield [] refl asks e (IsReady s.agenda) h
  own_so Sleep (v ∷ []) k s asks h =
      any_then Good (int_of v) _ λ z.
      known_then Good (waiting p k) _ λ j e. suspends_so Sleep (v ∷ []) k j (marks (Sleeping z) s) (sleep z (Suspended j) s.agenda) refl asks e (λ b i. Sleeps z s.agenda b i) h
  own_so IoWait (v ∷ w ∷ []) k s asks h =
      any_then Good (int_of v) _ λ fd.
      any_then Good (int_of w) _ λ way.
      known_then Good (waiting p k) _ λ j e.
      kept.suspended s.store k j s.agenda (io fd (direction_of way) (Suspended j) s.agenda) s.jobs IoWait (v ∷ w ∷ []) refl asks e (AwaitsIo fd (direction_of way) s.agenda) h
  own_so Wait (v ∷ []) k s asks h =
      any_then Good (cond_of v) _ λ c.
      known_then Good (waiting p k) _ λ j e. suspends_so Wait (v ∷ []) k j (marks (Waiting c) s) (wait c (Suspended j) s.agenda) refl asks e (λ b i. WaitsOn c s.agenda b i) h
  own_so _ vs k s asks h = tt

  primitive_so : (prim : Primitive) (vs : List Value) (k : Stack P) (s : State P (Thread P)) → s.running ≡ Some k → Asked_so s.store k (Builtin prim) vs → Over k s → Only Good (primitive (threads_of p) prim vs k s)
  primitive_so Print (v ∷ []) k s is asks h = any_then Good (int_of v) _ λ z. prints_so k (signed_decimal z ++ 10 ∷ []) s h
  primitive_so Putc (v ∷ []) k s is asks h = prints_so k _ s h
  primitive_so Puts vs k s is asks h = prints_so k _ s h
  primitive_so Now [] k s is asks h = reply_so k (Whole Long (pos s.agenda.now)) s h
  primitive_so CondNew [] k s is asks h = reply_so k (Cond s.agenda.conditions_made) (with_agenda s (cond_new s.agenda)) (kept.shuffled s.store (Some k) s.agenda (cond_new s.agenda) s.jobs (MadeCondition s.agenda) h)
  primitive_so CondFree (v ∷ []) k s is asks h = any_then Good (cond_of v) _ λ c. acts_so k (cond_free c s.agenda) s (λ b e. FreedCondition c s.agenda b e) h
  primitive_so Signal (v ∷ []) k s is asks h = any_then Good (cond_of v) _ λ c. acts_so k (signal c s.agenda) s (λ b e. Signalled c s.agenda b e) h
  primitive_so SignalAll (v ∷ []) k s is asks h = any_then Good (cond_of v) _ λ c. acts_so k (signal_all c s.agenda) s (λ b e. SignalledAll c s.agenda b e) h
  primitive_so Exit (v ∷ []) k s is asks h = any_then Good (int_of v) _ λ z. subst (λ o. I s.store o s.agenda s.jobs) (sym is) h
  primitive_so Malloc (v ∷ []) k s is asks h = replies_so k (allocated Heap v s.store) s (allocated_lives v s.store) h
  primitive_so Free (v ∷ []) k s is asks h = replies_so k (freed Heap v s.store) s (freed_lives v s.store) h
  primitive_so prim vs k s is asks h = own_so prim vs k s asks h

  -- ---- spawns and sections

  submits_so : (f : Text) (vs : List Value) (k j : Stack P) (s : State P (Thread P)) → waiting p k ≡ Gives j → Asked_so s.store k (Section f) vs → Over k s → Only (λ (t : State P (Thread P)). I t.store None t.agenda t.jobs) (submits p f vs (Suspended j) s)
  submits_so f vs k j s e asks h =
      result_then Idle (section (Suspended j) s.agenda) _ λ b i.
      known_then Idle (needed (function_named p.program f)) _ λ g is.
      known_then Idle (copy_of p.program g (first_or Unset vs) s.store) _ λ cells c.
      kept.submitted s.store k j s.agenda b s.jobs f g vs cells e (AwaitsSection s.agenda b i) (needed_is (function_named p.program f) g is) asks c h
    where
      Idle : State P (Thread P) → Type 0
      Idle t = I t.store None t.agenda t.jobs

  detaches_so : (f : Text) (vs : List Value) (k : Stack P) (s : State P (Thread P)) → Asked_so s.store k (Section f) vs → Over k s → Only Good (detaches_thread p f vs k s)
  detaches_so f vs k s asks h =
      known_then Good (waiting p k) _ λ j e.
      rest (submits p f vs (Suspended j) s) (submits_so f vs k j s e asks h)
    where
      rest : (a : Answer (State P (Thread P))) → Only (λ (t : State P (Thread P)). I t.store None t.agenda t.jobs) a → Only Good (a >>= λ t. Gives (record t { running = None }))
      rest (Gives t) h = h
      rest (Faults fault) h = tt
      rest NoAnswer h = tt

  host_so : (x : Text) (vs : List Value) (k : Stack P) (s : State P (Thread P)) → Over k s → Only Good (host_call p x vs k s)
  host_so x vs k s h =
      any_then Good (ints_of vs) _ λ zs.
      reply_so k (Whole Long (first_answer s.history.answers)) (marks (HostCall x zs (first_answer s.history.answers)) (record s { history = record s.history { answers = rest_of s.history.answers } })) h

  asked_so : (asked : Asked) (vs : List Value) (k : Stack P) (s : State P (Thread P)) → s.running ≡ Some k → Asked_so s.store k asked vs → Over k s → Only Good (asked_by (threads_of p) k s asked vs)
  asked_so (Builtin prim) vs k s is asks h = primitive_so prim vs k s is asks h
  asked_so (Host x) vs k s is asks h = host_so x vs k s h
  asked_so (ToSpawn f) vs k s is asks h = reply_so k Unset (with_agenda s (ready_one (Pending f vs) s.agenda)) (kept.spawned s.store k s.agenda s.jobs f vs asks h)
  asked_so (Section f) vs k s is asks h = detaches_so f vs k s asks h

  -- ---- steps

  runs_on_so : (s : State P (Thread P)) (k : Stack P) (d : Done P) → s.running ≡ Some k → plain p s.store k ≡ Gives d → ((asked : Asked) (vs : List Value) → plain p s.store k ≡ Gives (Asks (record { asked = asked; arguments = vs })) → Asked_so s.store k asked vs) → Over k s → Only Good (runs_on (threads_of p) s k d)
  runs_on_so s k (Went t j) is e asks h = kept.went s.store t k j s.agenda s.jobs e h
  runs_on_so s k (Returned v t) is e asks h = kept.returned s.store t k v s.agenda s.jobs e h
  runs_on_so s k (Asks r) is e asks h = asked_so r.asked r.arguments k s is (asks r.asked r.arguments e) h

  starts_so : (item : Thread P) (v : Value) (ds : List (Due (Thread P))) (s : State P (Thread P)) → s.agenda.round ≡ record { item = item; result = v } ∷ ds → Due_so v → I s.store None s.agenda s.jobs
      → Only Good (starts_thread p item v (with_agenda s (record s.agenda { round = ds })))
  starts_so (Pending f vs) v ds s e due h =
      known_then Good (needed (function_named p.program f)) _ λ g i.
      known_then Good (make_frame p g vs s.store) _ λ r made. kept.begun s.store r.1 s.agenda s.jobs f g vs v ds r.0 e (needed_is (function_named p.program f) g i) made h
  starts_so (Suspended k) v ds s e due h = kept.resumed s.store k v s.agenda s.jobs ds e due h

  polled_so : (told : Told) (s : State P (Thread P)) (x : Collected) → s.agenda.round ≡ [] → CollectedLives s.store x → I s.store None s.agenda s.jobs → s.running ≡ None → Only Good (polled (threads_of p) told s x)
  polled_so told s (AllGave vs t) none same h idle =
      subst (λ o. I t o (begin_round (poll told vs s.agenda)) s.jobs) (sym idle)
      (kept.shuffled t None s.agenda (begin_round (poll told vs s.agenda)) s.jobs (WasPolled told vs s.agenda none) (kept.stores s.store t None s.agenda s.jobs same h))
  polled_so told s (OneFailed fault f) none same h idle = subst (λ o. I s.store o s.agenda s.jobs) (sym idle) h
  polled_so told s NotClear none same h idle = tt

  takes_so : (s : State P (Thread P)) (told : Told) (polls : List Told) (not_out : Option ℕ) → s.agenda.round ≡ [] → I s.store None s.agenda s.jobs → s.running ≡ None → Only Good (takes_poll (threads_of p) s told polls not_out)
  takes_so s told polls (Some n) none h idle = subst (λ o. I s.store o s.agenda s.jobs) (sym idle) h
  takes_so s told polls None none h idle =
      polled_so told (told_state told polls s) (collect p s.history.section_bound s.jobs (completed told.events) s.store) none
      (collect_lives p s.history.section_bound s.jobs (completed told.events) s.store) h idle

  poll_so : (s : State P (Thread P)) (polls : List Told) → s.agenda.round ≡ [] → I s.store None s.agenda s.jobs → s.running ≡ None → Only Good (next_poll (threads_of p) s polls)
  poll_so s [] none h idle = subst (λ o. I s.store o s.agenda s.jobs) (sym idle) h
  poll_so s (told ∷ polls) none h idle = takes_so s told polls (not_out (completed told.events) (out s.agenda)) none h idle

  turns_so : (s : State P (Thread P)) (b : Bool) → s.agenda.round ≡ [] → I s.store None s.agenda s.jobs → s.running ≡ None → Only Good (turns_where (threads_of p) s b)
  turns_so s true none h idle = poll_so s s.history.polls none h idle
  turns_so s false none h idle = rounds (is_empty s.agenda.ready)
    where
      rounds : (b : Bool) → Good (next_round s b)
      rounds true = subst (λ o. I s.store o s.agenda s.jobs) (sym idle) h
      rounds false = subst (λ o. I s.store o (begin_round s.agenda) s.jobs) (sym idle) (kept.shuffled s.store None s.agenda (begin_round s.agenda) s.jobs (BeganRound s.agenda none) h)

  -- what is due in a step of a state
  abbrev pub DueIn : State P (Thread P) → Type 0
  DueIn s = (d : Due (Thread P)) (ds : List (Due (Thread P))) → s.agenda.round ≡ d ∷ ds → Due_so d.result

  schedules_so : (s : State P (Thread P)) (round : List (Due (Thread P))) → s.agenda.round ≡ round → DueIn s → I s.store None s.agenda s.jobs → s.running ≡ None → Only Good (schedules (threads_of p) s round)
  schedules_so s [] e due h idle = turns_so s (needs_poll s.agenda) e h idle
  schedules_so s (d ∷ ds) e due h idle = starts_so d.item d.result ds s e (due d ds e) h

  -- what is asked in a step of a state
  abbrev pub AsksIn : State P (Thread P) → Type 0
  AsksIn s = (k : Stack P) → s.running ≡ Some k → (asked : Asked) (vs : List Value) → plain p s.store k ≡ Gives (Asks (record { asked = asked; arguments = vs })) → Asked_so s.store k asked vs

  running_so : (s : State P (Thread P)) (o : Option (Stack P)) → s.running ≡ o → AsksIn s → DueIn s → Good s → Only Good (step_running (threads_of p) s o)
  running_so s None e asks due h = schedules_so s s.agenda.round refl due (subst (λ o. I s.store o s.agenda s.jobs) e h) e
  running_so s (Some k) e asks due h =
      known_then Good (plain p s.store k) _ λ d i. runs_on_so s k d e i (asks k e) (subst (λ o. I s.store o s.agenda s.jobs) e h)

  -- nothing, or a state of which it holds
  abbrev Next : Option (State P (Thread P)) → Type 0
  Next None = Unit {0}
  Next (Some s) = Good s

  settled_so : (s : State P (Thread P)) (a : Answer (State P (Thread P))) → Only Good a → Good s → Next (settled (threads_of p) s a)
  settled_so s (Gives t) i h = i
  settled_so s (Faults fault) i h = h
  settled_so s NoAnswer i h = tt

  going_so : (outcome : Outcome) (o : Option (State P (Thread P))) → Next o → Next (unless_over outcome o)
  going_so Going o h = h
  going_so _ o h = tt

  next_so : (s : State P (Thread P)) → AsksIn s → DueIn s → Good s → Next (next (threads_of p) s)
  next_so s asks due h = going_so s.outcome (try_step (threads_of p) s) (settled_so s (step_running (threads_of p) s s.running) (running_so s s.running refl asks due h) h)

  stays_so : (s : State P (Thread P)) (o : Option (State P (Thread P))) → Good s → Next o → Good (or_stay s o)
  stays_so s None h i = h
  stays_so s (Some t) h i = i

  -- a step keeps it
  pub step_so : (s : State P (Thread P)) → AsksIn s → DueIn s → Good s → Good (or_stay s (next (threads_of p) s))
  step_so s asks due h = stays_so s (next (threads_of p) s) h (next_so s asks due h)

  -- ---- the lifted machine, where frames may forget variables

  module _ (keeps : Text → P → ℕ → Bool) (tidies : (s : State P (Thread P)) → Good s → Good (tidy keeps s)) where
    tidy_so : (o : Option (State P (Thread P))) → Next o → Next (option_map (tidy keeps) o)
    tidy_so None i = tt
    tidy_so (Some t) i = tidies t i

    pub tidied_so : (s : State P (Thread P)) → AsksIn s → DueIn s → Good s → Good (or_stay s (option_map (tidy keeps) (next (threads_of p) s)))
    tidied_so s asks due h = stays_so s (option_map (tidy keeps) (next (threads_of p) s)) h (tidy_so (next (threads_of p) s) (next_so s asks due h))

    -- it holds of all states of a run
    pub run_so : (h : History) → Good (opening p.program (Pending main_name []) h) → ((n : ℕ) → AsksIn (run (lifted_system keeps p h) n)) → ((n : ℕ) → DueIn (run (lifted_system keeps p h) n)) → (n : ℕ) → Good (run (lifted_system keeps p h) n)
    run_so h opens asks due zero = opens
    run_so h opens asks due (suc n) = tidied_so (run (lifted_system keeps p h) n) (asks n) (due n) (run_so h opens asks due n)
