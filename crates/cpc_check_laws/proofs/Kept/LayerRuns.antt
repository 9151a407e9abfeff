-- Each step of threads keeps the layers of stacks: those that wait have frames of cps functions alone.
use Rattle.std.proofs.Common.{◌≡◌, inl, inr, ℕ, suc, pos, Bool, true, false, List, [], ◌∷◌, ◌++◌, length, Option, Some, None, Result, Ok, refl, ◌∙◌, ap, subst}
use Rattle.std.specs.Fmt.{signed_decimal}
use Rattle.std.specs.List.{All}
use Rattle.std.proofs.lemmas.List.Elements.{All-nil, All-cons, All-head, All-tail}
use Rattle.cpc_base.specs.Bytes.{Text}
use Rattle.cpc_num.specs.declared.kinds.Fault.{Fault}
use Rattle.cpc_num.specs.declared.kinds.Kind.TheVariants.{Long}
use Rattle.cpc_tree.specs.Syntax.{Function, Program}
use Rattle.cpc_tree.specs.Lists.{first_or, is_empty}
use Rattle.cpc_tree.specs.Typing.{function_named}
use Rattle.cpc_tree.specs.Primitives.{Primitive, Print, Putc, Puts, Now, CondNew, CondFree, Signal, SignalAll, Exit, Malloc, Free, Yield, Sleep, IoWait, Wait}
use Rattle.cpc_tree.specs.Trace.{Told, Polled, Mark, Output, Sleeping, Waiting, Awaiting, Outcome, Going, Ended, Exited, Failed, HistoryEnded, BadHistory}
use Rattle.cpc_store.specs.declared.values.Class.TheVariants.{Heap}
use Rattle.cpc_store.specs.Store.{Value, Unset, Whole, Cond, Store}
use Rattle.cpc_meaning.specs.Answer.{Answer, Gives, Faults, NoAnswer, ◌>>=◌, of_result, needed}
use Rattle.cpc_meaning.specs.Requests.{Asked, Builtin, Host, ToSpawn, Section}
use Rattle.cpc_meaning.specs.Plain.{Form, Frame, Stack, stack_of, Done, Went, Returned, Asks, make_frame, plain, answered, waiting}
use Rattle.cpc_meaning.specs.Slots.{call_slots}
use Rattle.cpc_meaning.specs.Agenda.{Due, Agenda, new_agenda, begin_round, cond_new, cond_free, signal, signal_all, section, ready_one, wait, sleep, io, needs_poll, completed, out, not_out, poll}
use Rattle.cpc_meaning.specs.History.{History}
use Rattle.cpc_meaning.specs.Section.{Job, allocated, freed}
use Rattle.cpc_meaning.specs.Copies.{copy_of, Collected, AllGave, OneFailed, NotClear, collect}
use Rattle.cpc_meaning.specs.Machine.{State, ends, marks, with_agenda, with_store, runs, after_done, reply, int_of, cond_of, prints, replies, acts, primitive, ints_of, first_answer, asked_by, direction_of, submits, polled, told_state, takes_poll, next_poll, next_round, turns_where, schedules, runs_on, step_running, settled, try_step, unless_over, next}
use Rattle.cpc_meaning.specs.Threads.{Thread, Pending, Suspended, starts_thread, suspends, thread_primitive, threads_of}
use Rattle.cpc_meaning.specs.Start.{opening, main_name}
use Rattle.cpc_meaning.proofs.Functions.{found_again}
use Rattle.cpc_meaning_laws.proofs.Pointer.Blocks.{Only, only_then, any_then}
use Rattle.cpc_check_rules.specs.Operators.{is_cps}
use Rattle.cpc_check_laws.specs.Kept.Kept.{KeptAgenda, Kept}
use Rattle.cpc_check_laws.specs.Kept.Layers.{KeepsModes, IsLayeredThread, Layered}
use Rattle.cpc_check_laws.specs.Kept.Laws.{LayersStay, ThreadsHold}
use Rattle.cpc_check_laws.proofs.Kept.Runs.{opening_so, goes_so}
use Rattle.cpc_check_laws.proofs.Kept.LayerActs.{Layers, Cps, AskedLayer, DoneLayer, cps_layered, answered_layer, waiting_layer, plain_layer}
use Rattle.cpc_check_laws.proofs.Kept.Agendas as A

module _ {P : Type 0} (p : Form P) where
  abbrev L : State P (Thread P) → Type 0
  L s = Layered p.program s

  abbrev Fine : Thread P → Type 0
  Fine x = IsLayeredThread p.program x

  abbrev Any : Value → Type 0
  Any v = Unit {0}

  abbrev Lists : Agenda (Thread P) → Type 0
  Lists a = KeptAgenda Fine Any a

  -- ---- other states

  -- another store, and the stack that runs on it
  with_stack : (s : State P (Thread P)) (t : Store) (k : Stack P) → L s → Layers p k.frames → L (record s { store = t; running = Some k })
  with_stack s t k h l = record { running = λ j e. let same : k ≡ j = cc in subst (λ (i : Stack P). Layers p i.frames) same l; agenda = h.agenda }

  with_none : (s : State P (Thread P)) (t : Store) (a : Agenda (Thread P)) → Lists a → L (record s { store = t; agenda = a; running = None })
  with_none s t a h = record { running = λ j e. absurd (cc); agenda = h }

  with_lists : (s : State P (Thread P)) (a : Agenda (Thread P)) → L s → Lists a → L (with_agenda s a)
  with_lists s a h k = record { running = h.running; agenda = k }

  -- what it does not speak of
  other : (s : State P (Thread P)) (t : Store) (jobs : List Job) (history : History) (trace : List Mark) (outcome : Outcome) → L s → L (record s { store = t; jobs = jobs; history = history; trace = trace; outcome = outcome })
  other s t jobs history trace outcome h = record { running = h.running; agenda = h.agenda }

  marked : (m : Mark) (s : State P (Thread P)) → L s → L (marks m s)
  marked m s h = other s s.store s.jobs s.history (s.trace ++ m ∷ []) s.outcome h

  ended : (outcome : Outcome) (s : State P (Thread P)) → L s → L (ends outcome s)
  ended outcome s h = other s s.store s.jobs s.history s.trace outcome h

  -- ---- calls and answers

  runs_layer : (f : Text) (vs : List Value) (s : State P (Thread P)) → L s → Only L (runs p f vs s)
  runs_layer f vs s h = found (function_named p.program f) refl
    where
      found : (o : Option Function) → function_named p.program f ≡ o → Only L (needed o >>= λ g. make_frame p g vs s.store >>= λ r. Gives (record s { store = r.1; running = Some (stack_of r.0) }))
      found None e = tt
      found (Some g) e =
          only_then (λ (r : Frame P × Store). r.0.function ≡ g.called) L (make_frame p g vs s.store) _ (any_then (λ (r : Frame P × Store). r.0.function ≡ g.called) (call_slots p.program g vs s.store) _ (λ r. refl)) λ r name.
          with_stack s r.1 (stack_of r.0) h (alone r.0 (ap (function_named p.program) name ∙ found_again p.program f g e) (is_cps g.mode) refl)
        where
          alone : (frame : Frame P) → function_named p.program frame.function ≡ Some g → (b : Bool) → is_cps g.mode ≡ b → Layers p (frame ∷ [])
          alone frame is true e = inr ((g, is, e), All-nil _)
          alone frame is false e = inl ((g, is, e), tt)

  reply_layer : (k : Stack P) (v : Value) (s : State P (Thread P)) → L s → Layers p k.frames → Only L (reply p k v s)
  reply_layer k v s h l = only_then (DoneLayer p k.frames) L (answered p s.store k v) (after_done s) (answered_layer p s.store k v) go
    where
      go : (d : Done P) → DoneLayer p k.frames d → Only L (after_done s d)
      go (Went t j) i = with_stack s t j h (i l)
      go (Returned w t) i = tt
      go (Asks r) i = tt

  replies_layer : (k : Stack P) (act : Answer (Store × Value)) (s : State P (Thread P)) → L s → Layers p k.frames → Only L (replies p k act s)
  replies_layer k act s h l = any_then L act _ λ r. reply_layer k r.1 (with_store s r.0) (other s r.0 s.jobs s.history s.trace s.outcome h) l

  acts_layer : (k : Stack P) (r : Result (Agenda (Thread P)) Fault) (s : State P (Thread P)) → L s → Layers p k.frames → Only Lists (of_result r) → Only L (acts p k r s)
  acts_layer k r s h l i = only_then Lists L (of_result r) _ i λ a j. reply_layer k Unset (with_agenda s a) (with_lists s a h j) l

  prints_layer : (k : Stack P) (bytes : Text) (s : State P (Thread P)) → L s → Layers p k.frames → Only L (prints p k bytes s)
  prints_layer k bytes s h l = reply_layer k Unset (marks (Output bytes) s) (marked (Output bytes) s h) l

  -- ---- waits

  suspends_layer : (s : State P (Thread P)) (r : Result (Agenda (Thread P)) Fault) → Only Lists (of_result r) → Only L (suspends s r)
  suspends_layer s r i = only_then Lists L (of_result r) _ i λ a j. with_none s s.store a j

  own_layer : (prim : Primitive) (vs : List Value) (k : Stack P) (s : State P (Thread P)) → L s → Layers p k.frames → AskedLayer p k.frames (Builtin prim) → Only L (thread_primitive p prim vs k s)
  own_layer Yield [] k s h l ask =
      only_then (λ (j : Stack P). Cps p j.frames) L (waiting p k) _ (waiting_layer p k (ask refl l)) λ j i.
      suspends_layer s (Ok (ready_one (Suspended j) s.agenda)) (A.ready_one_so Fine Any tt (Suspended j) s.agenda i h.agenda)
  own_layer Sleep (v ∷ []) k s h l ask =
      any_then L (int_of v) _ λ z.
      only_then (λ (j : Stack P). Cps p j.frames) L (waiting p k) _ (waiting_layer p k (ask refl l)) λ j i.
      suspends_layer (marks (Sleeping z) s) (sleep z (Suspended j) s.agenda) (A.sleep_so Fine Any tt z (Suspended j) s.agenda i h.agenda)
  own_layer IoWait (v ∷ w ∷ []) k s h l ask =
      any_then L (int_of v) _ λ fd.
      any_then L (int_of w) _ λ way.
      only_then (λ (j : Stack P). Cps p j.frames) L (waiting p k) _ (waiting_layer p k (ask refl l)) λ j i.
      suspends_layer (marks (Awaiting fd (direction_of way)) s) (Ok (io fd (direction_of way) (Suspended j) s.agenda)) (A.io_so Fine Any tt fd (direction_of way) (Suspended j) s.agenda i h.agenda)
  own_layer Wait (v ∷ []) k s h l ask =
      any_then L (cond_of v) _ λ c.
      only_then (λ (j : Stack P). Cps p j.frames) L (waiting p k) _ (waiting_layer p k (ask refl l)) λ j i.
      suspends_layer (marks (Waiting c) s) (wait c (Suspended j) s.agenda) (A.wait_so Fine Any tt c (Suspended j) s.agenda i h.agenda)
  own_layer _ vs k s h l ask = tt

  primitive_layer : (prim : Primitive) (vs : List Value) (k : Stack P) (s : State P (Thread P)) → L s → Layers p k.frames → AskedLayer p k.frames (Builtin prim) → Only L (primitive (threads_of p) prim vs k s)
  primitive_layer Print (v ∷ []) k s h l ask = any_then L (int_of v) _ λ z. prints_layer k (signed_decimal z ++ 10 ∷ []) s h l
  primitive_layer Putc (v ∷ []) k s h l ask = prints_layer k _ s h l
  primitive_layer Puts vs k s h l ask = prints_layer k _ s h l
  primitive_layer Now [] k s h l ask = reply_layer k (Whole Long (pos s.agenda.now)) s h l
  primitive_layer CondNew [] k s h l ask =
      reply_layer k (Cond s.agenda.conditions_made) (with_agenda s (cond_new s.agenda))
      (with_lists s (cond_new s.agenda) h (A.other_conditions Fine Any tt (s.agenda.live ++ s.agenda.conditions_made ∷ []) (suc s.agenda.conditions_made) s.agenda h.agenda)) l
  primitive_layer CondFree (v ∷ []) k s h l ask = any_then L (cond_of v) _ λ n. acts_layer k (cond_free n s.agenda) s h l (A.cond_free_so Fine Any tt n s.agenda h.agenda)
  primitive_layer Signal (v ∷ []) k s h l ask = any_then L (cond_of v) _ λ n. acts_layer k (signal n s.agenda) s h l (A.signal_so Fine Any tt n s.agenda h.agenda)
  primitive_layer SignalAll (v ∷ []) k s h l ask = any_then L (cond_of v) _ λ n. acts_layer k (signal_all n s.agenda) s h l (A.signal_all_so Fine Any tt n s.agenda h.agenda)
  primitive_layer Exit (v ∷ []) k s h l ask = any_then L (int_of v) _ λ z. ended (Exited z) s h
  primitive_layer Malloc (v ∷ []) k s h l ask = replies_layer k (allocated Heap v s.store) s h l
  primitive_layer Free (v ∷ []) k s h l ask = replies_layer k (freed Heap v s.store) s h l
  primitive_layer prim vs k s h l ask = own_layer prim vs k s h l ask

  -- ---- threads and sections

  submits_layer : (f : Text) (vs : List Value) (item : Thread P) (s : State P (Thread P)) → L s → Fine item → Only L (submits p f vs item s)
  submits_layer f vs item s h i =
      only_then Lists L (of_result (section item s.agenda)) _ (A.section_so Fine Any tt item s.agenda i h.agenda) λ a j.
      any_then L (needed (function_named p.program f)) _ λ g.
      any_then L (copy_of p.program g (first_or Unset vs) s.store) _ λ cells. record { running = h.running; agenda = j }

  asked_layer : (k : Stack P) (s : State P (Thread P)) (asked : Asked) (vs : List Value) → L s → Layers p k.frames → AskedLayer p k.frames asked → Only L (asked_by (threads_of p) k s asked vs)
  asked_layer k s (Builtin prim) vs h l ask = primitive_layer prim vs k s h l ask
  asked_layer k s (Host x) vs h l ask = any_then L (ints_of vs) _ λ zs. reply_layer k (Whole Long (first_answer s.history.answers)) _ (record { running = h.running; agenda = h.agenda }) l
  asked_layer k s (ToSpawn f) vs h l ask =
      reply_layer k Unset (with_agenda s (ready_one (Pending f vs) s.agenda)) (with_lists s (ready_one (Pending f vs) s.agenda) h (A.ready_one_so Fine Any tt (Pending f vs) s.agenda (inr ask) h.agenda)) l
  asked_layer k s (Section f) vs h l ask =
      only_then (λ (j : Stack P). Cps p j.frames) L (waiting p k) _ (waiting_layer p k (ask l)) λ j i.
      only_then L L (submits p f vs (Suspended j) s) _ (submits_layer f vs (Suspended j) s h i) λ t k. with_none t t.store t.agenda k.agenda

  starts_layer : (item : Thread P) (v : Value) (s : State P (Thread P)) → L s → Fine item → Only L (starts_thread p item v s)
  starts_layer (Pending f vs) v s h i = runs_layer f vs s h
  starts_layer (Suspended k) v s h i = with_stack s s.store (record k { arriving = Some v }) h (cps_layered p k.frames i)

  -- ---- the loop

  polled_layer : (told : Told) (s : State P (Thread P)) (x : Collected) → L s → Only L (polled (threads_of p) told s x)
  polled_layer told s (AllGave vs t) h = record { running = h.running; agenda = A.begin_round_so Fine Any tt (poll told vs s.agenda) (A.poll_so Fine Any tt told vs s.agenda (anything vs) h.agenda) }
    where
      anything : (vs : List Value) → All Any vs
      anything [] = All-nil Any
      anything (v ∷ vs) = All-cons Any v vs tt (anything vs)
  polled_layer told s (OneFailed fault f) h = ended (Failed fault _) s h
  polled_layer told s NotClear h = tt

  takes_layer : (s : State P (Thread P)) (told : Told) (polls : List Told) (not_out : Option ℕ) → L s → Only L (takes_poll (threads_of p) s told polls not_out)
  takes_layer s told polls (Some n) h = ended (BadHistory n) s h
  takes_layer s told polls None h =
      polled_layer told (told_state told polls s) (collect p s.history.section_bound s.jobs (completed told.events) s.store)
      (other s s.store s.jobs (record s.history { polls = polls }) (s.trace ++ Polled told ∷ []) s.outcome h)

  poll_layer : (s : State P (Thread P)) (polls : List Told) → L s → Only L (next_poll (threads_of p) s polls)
  poll_layer s [] h = ended HistoryEnded s h
  poll_layer s (told ∷ polls) h = takes_layer s told polls (not_out (completed told.events) (out s.agenda)) h

  round_layer : (s : State P (Thread P)) (none_ready : Bool) → L s → L (next_round s none_ready)
  round_layer s true h = ended (Ended (length s.agenda.waiters)) s h
  round_layer s false h = with_lists s (begin_round s.agenda) h (A.begin_round_so Fine Any tt s.agenda h.agenda)

  turns_layer : (s : State P (Thread P)) (b : Bool) → L s → Only L (turns_where (threads_of p) s b)
  turns_layer s true h = poll_layer s s.history.polls h
  turns_layer s false h = round_layer s (is_empty s.agenda.ready) h

  schedules_layer : (s : State P (Thread P)) (round : List (Due (Thread P))) → All (A.DueSo Fine Any tt) round → L s → Only L (schedules (threads_of p) s round)
  schedules_layer s [] i h = turns_layer s (needs_poll s.agenda) h
  schedules_layer s (d ∷ ds) i h =
      starts_layer d.item d.result (with_agenda s (record s.agenda { round = ds }))
      (with_lists s (record s.agenda { round = ds }) h (A.later_round Fine Any tt ds s.agenda (All-tail (A.DueSo Fine Any tt) d ds i) h.agenda)) (All-head (A.DueSo Fine Any tt) d ds i).0

  module _ (modes : KeepsModes p) where
    runs_on_layer : (s : State P (Thread P)) (k : Stack P) (d : Done P) → L s → Layers p k.frames → DoneLayer p k.frames d → Only L (runs_on (threads_of p) s k d)
    runs_on_layer s k (Went t j) h l i = with_stack s t j h (i l)
    runs_on_layer s k (Returned v t) h l i = with_none s t s.agenda h.agenda
    runs_on_layer s k (Asks r) h l i = asked_layer k s r.asked r.arguments h l i

    running_layer : (s : State P (Thread P)) (o : Option (Stack P)) → s.running ≡ o → Kept p.program s → L s → Only L (step_running (threads_of p) s o)
    running_layer s None e kept h = schedules_layer s s.agenda.round h.agenda.round h
    running_layer s (Some k) e kept h =
        only_then (DoneLayer p k.frames) L (plain p s.store k) _ (plain_layer p modes s.store k kept.codes (kept.running k e).codes) λ d i. runs_on_layer s k d h (h.running k e) i

    -- nothing, or a state of which it holds
    abbrev Next : Option (State P (Thread P)) → Type 0
    Next None = Unit {0}
    Next (Some s) = L s

    settled_layer : (s : State P (Thread P)) (a : Answer (State P (Thread P))) → Only L a → L s → Next (settled (threads_of p) s a)
    settled_layer s (Gives t) i h = i
    settled_layer s (Faults fault) i h = ended _ s h
    settled_layer s NoAnswer i h = tt

    going_layer : (outcome : Outcome) (o : Option (State P (Thread P))) → Next o → Next (unless_over outcome o)
    going_layer Going o h = h
    going_layer (Ended n) o h = tt
    going_layer (Exited z) o h = tt
    going_layer (Failed fault f) o h = tt
    going_layer HistoryEnded o h = tt
    going_layer (BadHistory n) o h = tt

    pub goes_layer : (s t : State P (Thread P)) → Kept p.program s → L s → next (threads_of p) s ≡ Some t → L t
    goes_layer s t kept h e =
        subst Next e (going_layer s.outcome (try_step (threads_of p) s) (settled_layer s (step_running (threads_of p) s s.running) (running_layer s s.running refl kept h) h))

-- where threads begin, over any positions
pub opening_layer : {P : Type 0} (p : Program) (h : History) → Layered {P = P} p (opening p (Pending main_name []) h)
opening_layer {P = P} p h = record {
  running = λ k e. absurd (cc);
  agenda = A.ready_one_so (λ (x : Thread P). IsLayeredThread p x) (λ (v : Value). Unit {0}) tt (Pending main_name []) new_agenda (inl refl) (A.nothing_there (λ (x : Thread P). IsLayeredThread p x) (λ (v : Value). Unit {0}) tt);
}

pub layers_stay : {P : Type 0} → LayersStay P
layers_stay p modes h = record { opens = opening_layer p.program h; goes = goes_layer p modes }

-- ---- all of it

pub threads_hold : {P : Type 0} → ThreadsHold P
threads_hold p steady modes h = record {
  opens = record { kept = opening_so p.program h; layered = opening_layer p.program h };
  goes = λ s t holds e. record { kept = goes_so p steady s t holds.kept e; layered = goes_layer p modes s t holds.kept holds.layered e };
}
