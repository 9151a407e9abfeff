-- A step of the event machine keeps that its pointers lead into blocks that were made, also where a poll is taken.
use Rattle.std.proofs.Common.{◌≡◌, pos, List, [], ◌∷◌, ◌++◌, Option, Some, Result, Ok, refl, sym, subst, ℕ, Bool, true, false, None, suc}
use Rattle.std.specs.Fmt.{signed_decimal}
use Rattle.std.specs.List.{All}
use Rattle.std.proofs.lemmas.List.Elements.{All-nil, All-cons, All-head, All-tail}
use Rattle.cpc_base.specs.Bytes.{Text}
use Rattle.cpc_num.specs.declared.kinds.Fault.{Fault}
use Rattle.cpc_num.specs.declared.kinds.Kind.TheVariants.{Int, Long}
use Rattle.cpc_tree.specs.Syntax.{TyInt, Program}
use Rattle.cpc_tree.specs.Lists.{first_or, is_empty}
use Rattle.cpc_tree.specs.Typing.{function_named}
use Rattle.cpc_tree.specs.Primitives.{Primitive, Print, Putc, Puts, Now, CondNew, CondFree, Signal, SignalAll, Exit, Malloc, Free, RtFrame, RtBox, RtFrameFree, RtUnbox, RtReady, RtWait, RtSleep, RtIo, RtDetach}
use Rattle.cpc_tree.specs.Trace.{Mark, Output, Sleeping, Waiting, Awaiting, Outcome, Exited, Told, Going, Ended, Failed, HistoryEnded, BadHistory}
use Rattle.cpc_store.specs.declared.values.Class.TheVariants.{Auto, Heap, Frame as FrameClass}
use Rattle.cpc_store.specs.Store.{Value, Unset, Whole, Null, At, Code, Cond, Store}
use Rattle.cpc_meaning.specs.Answer.{Answer, Gives, Faults, of_result, needed, NoAnswer}
use Rattle.cpc_meaning.specs.Eval.{assigned}
use Rattle.cpc_meaning.specs.Plain.{Form, Stack, Done, Went, Returned, Asks, answered, make_frame, plain}
use Rattle.cpc_meaning.specs.Agenda.{Agenda, cond_new, cond_free, signal, signal_all, section, ready_one, wait, sleep, io, Due, begin_round, needs_poll, completed, out, not_out, poll}
use Rattle.cpc_meaning.specs.Section.{allocated, freed}
use Rattle.cpc_meaning.specs.Copies.{copy_of, Collected, AllGave, OneFailed, NotClear, collect}
use Rattle.cpc_meaning.specs.Machine.{State, ends, marks, with_agenda, with_store, runs, after_done, reply, int_of, cond_of, prints, replies, acts, primitive, direction_of, submits, ints_of, first_answer, host_call, asked_by, next_poll, next_round, turns_where, schedules, runs_on, code_step, step_running, settled, try_step, unless_over, next, step, takes_poll, polled, told_state}
use Rattle.cpc_meaning.specs.Events.{Callback, CallMain, CallWith, starts_callback, event_primitive, callbacks_of, event, callbacks}
use Rattle.cpc_meaning.specs.Start.{main_name}
use Rattle.cpc_meaning_laws.specs.Pointer.Made.{IsMade, IsMadeCallback, IsMadeStore, IsMadeCode}
use Rattle.cpc_meaning_laws.proofs.Pointer.Blocks.{Only, only_then, any_then}
use Rattle.cpc_meaning_laws.proofs.Pointer.Values.{assigned_made}
use Rattle.cpc_meaning_laws.proofs.Pointer.Stores.{Later, Onward}
use Rattle.cpc_meaning_laws.proofs.Pointer.Steps.{FrameMade, DoneMade, frame_come, stack_made, code_later, answered_made, plain_made}
use Rattle.cpc_meaning_matching.specs.Steps.{or_stay}
use Rattle.cpc_meaning.specs.Requests.{Asked, Builtin, Host, ToSpawn, Section}
use Rattle.cpc_meaning.specs.Trees.{trees}
use Rattle.cpc_meaning.specs.History.{History}
use Rattle.cpc_tree.specs.Points.{Point}
use Rattle.cpc_meaning_laws.proofs.Pointer.Machine.{Handed, allocated_made, freed_made}
use Rattle.cpc_meaning_laws.proofs.Pointer.Runs.{runs_are_made}
use Rattle.cpc_meaning_laws.proofs.Pointer.Agendas.{later_callback}
use Rattle.cpc_check_laws.specs.Kept.Kept.{KeptAgenda}
use Rattle.cpc_check_laws.proofs.Kept.Agendas as L
use Rattle.cpc_run_code.specs.Made.{IsValue, IsMadeRun}
use Rattle.cpc_run_code.proofs.Written.{Collects, collects}

-- ---- lists

module _ (s : Store) where
  abbrev Fine : Callback → Type 0
  Fine c = IsMadeCallback s c

  -- the callbacks of lists lead into blocks that were made
  abbrev MadeLists : Agenda Callback → Type 0
  MadeLists a = KeptAgenda Fine IsValue a

  abbrev DueMade : Due Callback → Type 0
  DueMade d = Fine d.item × IsValue d.result

  -- what is taken as an int points nowhere
  int_made : (v : Value) → Only (IsMade s) (assigned (TyInt Int) v)
  int_made Unset = assigned_made s (TyInt Int) Unset tt
  int_made (Whole kind z) = assigned_made s (TyInt Int) (Whole kind z) tt
  int_made Null = tt
  int_made (At c n k) = tt
  int_made (Code f) = tt
  int_made (Cond n) = tt

  any_values : (vs : List Value) → All IsValue vs
  any_values [] = All-nil IsValue
  any_values (v ∷ vs) = All-cons IsValue v vs tt (any_values vs)

later_lists : (s t : Store) → Later s t → (a : Agenda Callback) → MadeLists s a → MadeLists t a
later_lists s t l a h = L.agenda_as (Fine s) (Fine t) IsValue IsValue (later_callback s t l) (λ v i. i) a h

-- ---- states

module _ {P : Type 0} (p : Form P) where
  -- what holds of all states
  record Good (s : State P Callback) : Type 0 where
    pub made : IsMadeRun s

  -- another store, and the stack that runs on it
  with_code : (s : State P Callback) (t : Store) (o : Option (Stack P)) → Good s → Later s.store t → IsMadeStore t → ((k : Stack P) → o ≡ Some k → IsMadeCode t k) → Good (record s { store = t; running = o })
  with_code s t o h l made code = record { made = record { store = made; running = code; agenda = later_lists s.store t l s.agenda h.made.agenda } }

  code_is : (t : Store) (k : Stack P) → IsMadeCode t k → (j : Stack P) → Some k ≡ Some j → IsMadeCode t j
  code_is t k h j e = let same : k ≡ j = cc in subst (IsMadeCode t) same h

  -- another agenda
  with_agenda_good : (s : State P Callback) (a : Agenda Callback) → Good s → MadeLists s.store a → Good (with_agenda s a)
  with_agenda_good s a h k = record { made = record { store = h.made.store; running = h.made.running; agenda = k } }

  marks_good : (m : Mark) (s : State P Callback) → Good s → Good (marks m s)
  marks_good m s h = record { made = record { store = h.made.store; running = h.made.running; agenda = h.made.agenda } }

  ends_good : (outcome : Outcome) (s : State P Callback) → Good s → Good (ends outcome s)
  ends_good outcome s h = record { made = record { store = h.made.store; running = h.made.running; agenda = h.made.agenda } }

  -- a function is run
  runs_good : (f : Text) (vs : List Value) (s : State P Callback) → Good s → All (IsMade s.store) vs → Only Good (runs p f vs s)
  runs_good f vs s h i =
      any_then Good (needed (function_named p.program f)) _ λ g.
      only_then (FrameMade {P = P} s.store) Good (make_frame p g vs s.store) _ (frame_come p g vs s.store h.made.store i) λ r k.
      with_code s r.1 (Some _) h k.onward.later k.onward.made (code_is r.1 _ (stack_made p r.0 r.1 k.onward.made k.slots))

  -- ---- answers

  reply_good : (k : Stack P) (v : Value) (s : State P Callback) → Good s → IsMadeCode s.store k → IsMade s.store v → Only Good (reply p k v s)
  reply_good k v s h code i = only_then (DoneMade s.store) Good (answered p s.store k v) (after_done s) (answered_made p s.store k v code i) go
    where
      go : (x : Done P) → DoneMade s.store x → Only Good (after_done s x)
      go (Went t j) l = with_code s t (Some j) h l.0 l.1.store (code_is t j l.1)
      go (Returned w t) l = tt
      go (Asks r) l = tt

  replies_good : (k : Stack P) (act : Answer (Store × Value)) (s : State P Callback) → Good s → IsMadeCode s.store k → Only (Handed s.store) act → Only Good (replies p k act s)
  replies_good k act s h code i = only_then (Handed s.store) Good act _ i λ r j.
      reply_good k r.1 (with_store s r.0) (stored r.0 j.0) (code_later s.store r.0 k j.0.later j.0.made code) j.1
    where
      stored : (t : Store) → Onward s.store t → Good (with_store s t)
      stored t on = with_code s t s.running h on.later on.made (λ j e. code_later s.store t j on.later on.made (h.made.running j e))

  acts_good : (k : Stack P) (r : Result (Agenda Callback) Fault) (s : State P Callback) → Good s → IsMadeCode s.store k → Only (MadeLists s.store) (of_result r) → Only Good (acts p k r s)
  acts_good k r s h code i = only_then (MadeLists s.store) Good (of_result r) _ i λ a j. reply_good k Unset (with_agenda s a) (with_agenda_good s a h j) code tt

  -- ---- sections

  -- a state with the same store
  record SameStore (s t : State P Callback) : Type 0 where
    pub good : Good t
    pub store : t.store ≡ s.store

  submits_good : (f : Text) (vs : List Value) (item : Callback) (s : State P Callback) → Good s → IsMadeCallback s.store item → Only (SameStore s) (submits p f vs item s)
  submits_good f vs item s h i =
      only_then (MadeLists s.store) (SameStore s) (of_result (section item s.agenda)) _ (L.section_so (Fine s.store) IsValue tt item s.agenda i h.made.agenda) λ a j.
      any_then (SameStore s) (needed (function_named p.program f)) _ λ g.
      any_then (SameStore s) (copy_of p.program g (first_or Unset vs) s.store) _ λ cells.
      record { good = record { made = record { store = h.made.store; running = h.made.running; agenda = j } }; store = refl }

  -- ---- the event machine's own primitives

  starts_good : (item : Callback) (v : Value) (s : State P Callback) → Good s → IsMadeCallback s.store item → Only Good (starts_callback p item v s)
  starts_good CallMain v s h i = runs_good main_name [] s h (All-nil (IsMade s.store))
  starts_good (CallWith f pointer) v s h i =
      only_then (IsMade s.store) Good (assigned (TyInt Int) v) _ (int_made s.store v) λ w l.
      runs_good f (pointer ∷ w ∷ []) s h (All-cons (IsMade s.store) pointer (w ∷ []) i (All-cons (IsMade s.store) w [] l (All-nil (IsMade s.store))))

  second : (s : Store) (v w : Value) (vs : List Value) → All (IsMade s) (v ∷ w ∷ vs) → IsMade s w
  second s v w vs h = All-head (IsMade s) w vs (All-tail (IsMade s) v (w ∷ vs) h)

  third : (s : Store) (v w x : Value) (vs : List Value) → All (IsMade s) (v ∷ w ∷ x ∷ vs) → IsMade s x
  third s v w x vs h = second s w x vs (All-tail (IsMade s) v (w ∷ x ∷ vs) h)

  fourth : (s : Store) (v w x y : Value) (vs : List Value) → All (IsMade s) (v ∷ w ∷ x ∷ y ∷ vs) → IsMade s y
  fourth s v w x y vs h = third s w x y vs (All-tail (IsMade s) v (w ∷ x ∷ y ∷ vs) h)

  own_good : (prim : Primitive) (vs : List Value) (k : Stack P) (s : State P Callback) → Good s → IsMadeCode s.store k → All (IsMade s.store) vs → Only Good (event_primitive p prim vs k s)
  own_good RtFrame (v ∷ []) k s h code i = replies_good k (allocated FrameClass v s.store) s h code (allocated_made FrameClass v s.store h.made.store)
  own_good RtBox (v ∷ []) k s h code i = replies_good k (allocated Auto v s.store) s h code (allocated_made Auto v s.store h.made.store)
  own_good RtFrameFree (v ∷ []) k s h code i = replies_good k (freed FrameClass v s.store) s h code (freed_made FrameClass v s.store h.made.store)
  own_good RtUnbox (v ∷ []) k s h code i = replies_good k (freed Auto v s.store) s h code (freed_made Auto v s.store h.made.store)
  own_good RtReady (Code f ∷ x ∷ []) k s h code i =
      acts_good k (Ok (ready_one (CallWith f x) s.agenda)) s h code (L.ready_one_so (Fine s.store) IsValue tt (CallWith f x) s.agenda (second s.store (Code f) x [] i) h.made.agenda)
  own_good RtWait (v ∷ Code f ∷ x ∷ []) k s h code i =
      any_then Good (cond_of v) _ λ n.
      acts_good k (wait n (CallWith f x) s.agenda) (marks (Waiting n) s) (marks_good (Waiting n) s h) code (L.wait_so (Fine s.store) IsValue tt n (CallWith f x) s.agenda (third s.store v (Code f) x [] i) h.made.agenda)
  own_good RtSleep (v ∷ Code f ∷ x ∷ []) k s h code i =
      any_then Good (int_of v) _ λ z.
      acts_good k (sleep z (CallWith f x) s.agenda) (marks (Sleeping z) s) (marks_good (Sleeping z) s h) code (L.sleep_so (Fine s.store) IsValue tt z (CallWith f x) s.agenda (third s.store v (Code f) x [] i) h.made.agenda)
  own_good RtIo (v ∷ w ∷ Code f ∷ x ∷ []) k s h code i =
      any_then Good (int_of v) _ λ fd.
      any_then Good (int_of w) _ λ way.
      acts_good k (Ok (io fd (direction_of way) (CallWith f x) s.agenda)) (marks (Awaiting fd (direction_of way)) s) (marks_good (Awaiting fd (direction_of way)) s h) code
      (L.io_so (Fine s.store) IsValue tt fd (direction_of way) (CallWith f x) s.agenda (fourth s.store v w (Code f) x [] i) h.made.agenda)
  own_good RtDetach (Code f ∷ x ∷ Code g ∷ vs) k s h code i =
      only_then (SameStore s) Good (submits p g vs (CallWith f x) s) _ (submits_good g vs (CallWith f x) s h (second s.store (Code f) x (Code g ∷ vs) i)) λ t j.
      reply_good k Unset t j.good (subst (λ u. IsMadeCode u k) (sym j.store) code) tt
  own_good _ vs k s h code i = tt

  -- ---- what both machines have

  prints_good : (k : Stack P) (bytes : Text) (s : State P Callback) → Good s → IsMadeCode s.store k → Only Good (prints p k bytes s)
  prints_good k bytes s h code = reply_good k Unset (marks (Output bytes) s) (marks_good (Output bytes) s h) code tt

  primitive_good : (prim : Primitive) (vs : List Value) (k : Stack P) (s : State P Callback) → Good s → IsMadeCode s.store k → All (IsMade s.store) vs → Only Good (primitive (callbacks_of p) prim vs k s)
  primitive_good Print (v ∷ []) k s h code i = any_then Good (int_of v) _ λ z. prints_good k (signed_decimal z ++ 10 ∷ []) s h code
  primitive_good Putc (v ∷ []) k s h code i = prints_good k _ s h code
  primitive_good Puts vs k s h code i = prints_good k _ s h code
  primitive_good Now [] k s h code i = reply_good k (Whole Long (pos s.agenda.now)) s h code tt
  primitive_good CondNew [] k s h code i =
      reply_good k (Cond s.agenda.conditions_made) (with_agenda s (cond_new s.agenda))
      (with_agenda_good s (cond_new s.agenda) h (L.other_conditions (Fine s.store) IsValue tt (s.agenda.live ++ s.agenda.conditions_made ∷ []) (suc s.agenda.conditions_made) s.agenda h.made.agenda)) code tt
  primitive_good CondFree (v ∷ []) k s h code i = any_then Good (cond_of v) _ λ n. acts_good k (cond_free n s.agenda) s h code (L.cond_free_so (Fine s.store) IsValue tt n s.agenda h.made.agenda)
  primitive_good Signal (v ∷ []) k s h code i = any_then Good (cond_of v) _ λ n. acts_good k (signal n s.agenda) s h code (L.signal_so (Fine s.store) IsValue tt n s.agenda h.made.agenda)
  primitive_good SignalAll (v ∷ []) k s h code i = any_then Good (cond_of v) _ λ n. acts_good k (signal_all n s.agenda) s h code (L.signal_all_so (Fine s.store) IsValue tt n s.agenda h.made.agenda)
  primitive_good Exit (v ∷ []) k s h code i = any_then Good (int_of v) _ λ z. ends_good (Exited z) s h
  primitive_good Malloc (v ∷ []) k s h code i = replies_good k (allocated Heap v s.store) s h code (allocated_made Heap v s.store h.made.store)
  primitive_good Free (v ∷ []) k s h code i = replies_good k (freed Heap v s.store) s h code (freed_made Heap v s.store h.made.store)
  primitive_good prim vs k s h code i = own_good prim vs k s h code i

  -- ---- steps

  host_good : (x : Text) (vs : List Value) (k : Stack P) (s : State P Callback) → Good s → IsMadeCode s.store k → Only Good (host_call p x vs k s)
  host_good x vs k s h code = any_then Good (ints_of vs) _ λ zs.
      reply_good k (Whole Long (first_answer s.history.answers)) _ (record { made = record { store = h.made.store; running = h.made.running; agenda = h.made.agenda } }) code tt

  asked_good : (k : Stack P) (s : State P Callback) (asked : Asked) (vs : List Value) → Good s → IsMadeCode s.store k → All (IsMade s.store) vs → Only Good (asked_by (callbacks_of p) k s asked vs)
  asked_good k s (Builtin prim) vs h code i = primitive_good prim vs k s h code i
  asked_good k s (Host x) vs h code i = host_good x vs k s h code
  asked_good k s (ToSpawn f) vs h code i = tt
  asked_good k s (Section f) vs h code i = tt

  no_stack : (t : Store) (j : Stack P) → None ≡ Some j → IsMadeCode t j
  no_stack t j e = absurd (cc)

  runs_on_good : (s : State P Callback) (k : Stack P) (x : Done P) → Good s → IsMadeCode s.store k → DoneMade s.store x → Only Good (runs_on (callbacks_of p) s k x)
  runs_on_good s k (Went t j) h code l = with_code s t (Some j) h l.0 l.1.store (code_is t j l.1)
  runs_on_good s k (Returned v t) h code on = with_code s t None h on.later on.made (no_stack t)
  runs_on_good s k (Asks r) h code i = asked_good k s r.asked r.arguments h code i

  code_good : (s : State P Callback) (k : Stack P) → Good s → IsMadeCode s.store k → Only Good (code_step (callbacks_of p) s k)
  code_good s k h code = only_then (DoneMade s.store) Good (plain p s.store k) _ (plain_made p s.store k code) λ x i. runs_on_good s k x h code i

  -- ---- the loop

  -- what is known of a state is known of it behind the mark of a poll
  told_good : (s : State P Callback) (told : Told) (polls : List Told) → Good s → Good (told_state told polls s)
  told_good s told polls h = record { made = record { store = h.made.store; running = h.made.running; agenda = h.made.agenda } }

  polled_good : (told : Told) (s : State P Callback) (x : Collected) → Good s → Collects s.store x → Only Good (polled (callbacks_of p) told s x)
  polled_good told s (AllGave vs t) h i =
      let later = later_lists s.store t i.0.later s.agenda h.made.agenda in record {
        made = record {
          store = i.0.made;
          running = λ k e. code_later s.store t k i.0.later i.0.made (h.made.running k e);
          agenda = L.begin_round_so (Fine t) IsValue tt (poll told vs s.agenda) (L.poll_so (Fine t) IsValue tt told vs s.agenda (any_values s.store vs) later);
        };
      }
  polled_good told s (OneFailed fault f) h i = ends_good _ s h
  polled_good told s NotClear h i = tt

  taken_good : (s : State P Callback) (told : Told) (polls : List Told) → Good s → (o : Option ℕ) → Only Good (takes_poll (callbacks_of p) s told polls o)
  taken_good s told polls h (Some n) = ends_good (BadHistory n) s h
  taken_good s told polls h None =
      polled_good told (told_state told polls s) (collect p s.history.section_bound s.jobs (completed told.events) s.store) (told_good s told polls h)
      (collects p s.history.section_bound s.jobs (completed told.events) s.store h.made.store)

  poll_good : (s : State P Callback) (polls : List Told) → Good s → Only Good (next_poll (callbacks_of p) s polls)
  poll_good s [] h = ends_good HistoryEnded s h
  poll_good s (told ∷ polls) h = taken_good s told polls h (not_out (completed told.events) (out s.agenda))

  round_good : (s : State P Callback) (none_ready : Bool) → Good s → Good (next_round s none_ready)
  round_good s true h = ends_good _ s h
  round_good s false h = with_agenda_good s (begin_round s.agenda) h (L.begin_round_so (Fine s.store) IsValue tt s.agenda h.made.agenda)

  turns_good : (s : State P Callback) (b : Bool) → Good s → Only Good (turns_where (callbacks_of p) s b)
  turns_good s true h = poll_good s s.history.polls h
  turns_good s false h = round_good s (is_empty s.agenda.ready) h

  schedules_good : (s : State P Callback) (round : List (Due Callback)) → All (DueMade s.store) round → Good s → Only Good (schedules (callbacks_of p) s round)
  schedules_good s [] i h = turns_good s (needs_poll s.agenda) h
  schedules_good s (d ∷ ds) i h =
      let due = All-head (DueMade s.store) d ds i in
      starts_good d.item d.result (with_agenda s (record s.agenda { round = ds }))
      (with_agenda_good s (record s.agenda { round = ds }) h (L.later_round (Fine s.store) IsValue tt ds s.agenda (All-tail (DueMade s.store) d ds i) h.made.agenda)) due.0

  running_good : (s : State P Callback) (o : Option (Stack P)) → s.running ≡ o → Good s → Only Good (step_running (callbacks_of p) s o)
  running_good s None e h = schedules_good s s.agenda.round h.made.agenda.round h
  running_good s (Some k) e h = code_good s k h (h.made.running k e)

  -- nothing, or a state of which it holds
  abbrev Next : Option (State P Callback) → Type 0
  Next None = Unit {0}
  Next (Some s) = Good s

  settled_good : (s : State P Callback) (a : Answer (State P Callback)) → Only Good a → Good s → Next (settled (callbacks_of p) s a)
  settled_good s (Gives t) i h = i
  settled_good s (Faults fault) i h = ends_good _ s h
  settled_good s NoAnswer i h = tt

  going_good : (outcome : Outcome) (o : Option (State P Callback)) → Next o → Next (unless_over outcome o)
  going_good Going o h = h
  going_good (Ended n) o h = tt
  going_good (Exited z) o h = tt
  going_good (Failed fault f) o h = tt
  going_good HistoryEnded o h = tt
  going_good (BadHistory n) o h = tt

  stays_good : (s : State P Callback) (o : Option (State P Callback)) → Good s → Next o → Good (or_stay s o)
  stays_good s None h i = h
  stays_good s (Some t) h i = i

  step_good : (s : State P Callback) → Good s → Good (step (callbacks_of p) s)
  step_good s h =
      stays_good s (next (callbacks_of p) s) h
      (going_good s.outcome (try_step (callbacks_of p) s) (settled_good s (step_running (callbacks_of p) s s.running) (running_good s s.running refl h) h))

-- the next state
pub step_made : (q : Program) (s : State Point Callback) → IsMadeRun s → IsMadeRun (step (callbacks q) s)
step_made q s h = (step_good (trees q) s (record { made = h })).made

-- the first state
pub first_made : (q : Program) (h : History) → IsMadeRun (event q h 0)
first_made q h =
    let made = runs_are_made q (record { polls = []; answers = []; section_bound = 0 }) 0 refl in
    let s : Store = (event q h 0).store in
    record {
      store = made.store;
      running = made.running;
      agenda = L.agenda_as (Fine s) (Fine s) (IsMade s) IsValue (λ c i. i) (λ v i. tt) (event q h 0).agenda (record {
        ready = made.agenda.ready;
        round = made.agenda.round;
        waiters = made.agenda.waiters;
        descriptors = made.agenda.descriptors;
        timers = made.agenda.timers;
        sections = made.agenda.sections;
      });
    }
