-- A step that ends the run where nothing runs afterwards: nothing ran before, the round was over, and the turn changed neither store nor agenda.
use Rattle.std.proofs.Common.{◌≡◌, ℕ, pos, Bool, true, false, List, [], ◌∷◌, ◌++◌, map, Option, Some, None, Result, Ok, refl, sym, ◌∙◌, ap, subst}
use Rattle.std.specs.Fmt.{signed_decimal}
use Rattle.cpc_base.specs.Bytes.{Text}
use Rattle.cpc_num.specs.declared.kinds.Fault.{Fault}
use Rattle.cpc_num.specs.declared.kinds.Kind.TheVariants.{Long}
use Rattle.cpc_store.specs.declared.values.Class.TheVariants.{Auto, Heap, Frame as FrameClass}
use Rattle.cpc_store.specs.Store.{Value, Unset, Whole, Cond, Code, Store}
use Rattle.cpc_tree.specs.Lists.{is_empty, first_or, rest_of}
use Rattle.cpc_tree.specs.Trace.{Told, HostCall, Output, Sleeping, Waiting, Awaiting, Going, Failed, is_over}
use Rattle.cpc_tree.specs.Typing.{function_named}
use Rattle.cpc_meaning.specs.Agenda.{Due, Agenda, io, ready_one, wait, sleep, section, cond_new, cond_free, signal, signal_all, completed, out, not_out, needs_poll}
use Rattle.cpc_meaning.specs.Answer.{Answer, Gives, Faults, NoAnswer, ◌>>=◌, of_result, needed}
use Rattle.cpc_meaning.specs.Copies.{Collected, AllGave, OneFailed, NotClear, copy_of}
use Rattle.cpc_meaning.specs.Machine.{State, Machine, marks, with_agenda, with_store, after_done, reply, replies, acts, byte_of, int_of, cond_of, ints_of, first_answer, primitive, host_call, asked_by, submits, runs_on, code_step, told_state, polled, takes_poll, next_poll, next_round, turns_where, turns, schedules, settled, ends, direction_of, fault_function}
use Rattle.cpc_meaning.specs.Plain.{Form, Stack, stack_of, Done, Went, Returned, Asks, plain, answered, waiting, make_frame}
use Rattle.cpc_meaning.specs.Requests.{Asked, Builtin, Host, ToSpawn, Section, Primitive, Print, Putc, Puts, Now, CondNew, CondFree, Signal, SignalAll, Exit, Malloc, Free, Yield, Sleep, IoWait, Wait, RtFrame, RtBox, RtFrameFree, RtUnbox, RtReady, RtWait, RtSleep, RtIo, RtDetach}
use Rattle.cpc_meaning.specs.Events.{Callback, CallWith, event_primitive, callbacks_of}
use Rattle.cpc_meaning.specs.Section.{allocated, freed}
use Rattle.cpc_meaning.specs.Threads.{Thread, Pending, Suspended, suspends, starts_thread, thread_primitive, spawns_thread, detaches_thread, threads_of, shown_in}
use Rattle.cpc_meaning_laws.proofs.Pointer.Blocks.{Only, any_then, only_then, only_as}

-- ---- code that runs

-- where nothing runs the run goes on
abbrev pub GoesIdle : {P T : Type 0} → State P T → Type 0
GoesIdle s = s.running ≡ None → s.outcome ≡ Going

module _ {P T : Type 0} (p : Form P) where
  reply_idle : (k : Stack P) (v : Value) (s : State P T) → s.outcome ≡ Going → Only GoesIdle (reply p k v s)
  reply_idle k v s going = any_then GoesIdle (answered p s.store k v) (after_done s) go
    where
      go : (d : Done P) → Only GoesIdle (after_done s d)
      go (Went t j) = λ e. going
      go (Returned w t) = tt
      go (Asks r) = tt

  acts_idle : (k : Stack P) (r : Result (Agenda T) Fault) (s : State P T) → s.outcome ≡ Going → Only GoesIdle (acts p k r s)
  acts_idle k r s going = any_then GoesIdle (of_result r) _ λ a. reply_idle k Unset (with_agenda s a) going

  replies_idle : (k : Stack P) (act : Answer (Store × Value)) (s : State P T) → s.outcome ≡ Going → Only GoesIdle (replies p k act s)
  replies_idle k act s going = any_then GoesIdle act _ λ r. reply_idle k r.1 (with_store s r.0) going

  -- a section is submitted
  abbrev StillGoes : State P T → Type 0
  StillGoes t = t.outcome ≡ Going

  submits_going : (f : Text) (vs : List Value) (item : T) (s : State P T) → s.outcome ≡ Going → Only StillGoes (submits p f vs item s)
  submits_going f vs item s going =
      any_then StillGoes (of_result (section item s.agenda)) _ λ a.
      any_then StillGoes (needed (function_named p.program f)) _ λ g.
      any_then StillGoes (copy_of p.program g (first_or Unset vs) s.store) _ λ cells. going

  host_idle : (x : Text) (vs : List Value) (k : Stack P) (s : State P T) → s.outcome ≡ Going → Only GoesIdle (host_call p x vs k s)
  host_idle x vs k s going =
      any_then GoesIdle (ints_of vs) _ λ zs.
      reply_idle k (Whole Long (first_answer s.history.answers)) (marks (HostCall x zs (first_answer s.history.answers)) (record s { history = record s.history { answers = rest_of s.history.answers } })) going

-- so it is of a machine's code, where it is of the machine's own primitives
module _ {P T : Type 0} (m : Machine P T) (own : (prim : Primitive) (vs : List Value) (k : Stack P) (s : State P T) → s.outcome ≡ Going → Only GoesIdle (m.own prim vs k s))
    (spawn : (f : Text) (vs : List Value) (k : Stack P) (s : State P T) → s.outcome ≡ Going → Only GoesIdle (m.spawn f vs k s)) (detach : (f : Text) (vs : List Value) (k : Stack P) (s : State P T) → s.outcome ≡ Going → Only GoesIdle (m.detach f vs k s)) where
  primitive_idle : (prim : Primitive) (vs : List Value) (k : Stack P) (s : State P T) → s.running ≡ Some k → s.outcome ≡ Going → Only GoesIdle (primitive m prim vs k s)
  primitive_idle Print (v ∷ []) k s is going = any_then GoesIdle (int_of v) _ λ z. reply_idle m.form k Unset (marks (Output (signed_decimal z ++ 10 ∷ [])) s) going
  primitive_idle Putc (v ∷ []) k s is going = reply_idle m.form k Unset (marks (Output (byte_of v ∷ [])) s) going
  primitive_idle Puts vs k s is going = reply_idle m.form k Unset (marks (Output (map byte_of vs)) s) going
  primitive_idle Now [] k s is going = reply_idle m.form k (Whole Long (pos s.agenda.now)) s going
  primitive_idle CondNew [] k s is going = reply_idle m.form k (Cond s.agenda.conditions_made) (with_agenda s (cond_new s.agenda)) going
  primitive_idle CondFree (v ∷ []) k s is going = any_then GoesIdle (cond_of v) _ λ c. acts_idle m.form k (cond_free c s.agenda) s going
  primitive_idle Signal (v ∷ []) k s is going = any_then GoesIdle (cond_of v) _ λ c. acts_idle m.form k (signal c s.agenda) s going
  primitive_idle SignalAll (v ∷ []) k s is going = any_then GoesIdle (cond_of v) _ λ c. acts_idle m.form k (signal_all c s.agenda) s going
  primitive_idle Exit (v ∷ []) k s is going = any_then GoesIdle (int_of v) _ λ z e. absurd (let i : Some k ≡ None = sym is ∙ e in cc)
  primitive_idle Malloc (v ∷ []) k s is going = replies_idle m.form k (allocated Heap v s.store) s going
  primitive_idle Free (v ∷ []) k s is going = replies_idle m.form k (freed Heap v s.store) s going
  primitive_idle prim vs k s is going = own prim vs k s going

  asked_idle : (asked : Asked) (vs : List Value) (k : Stack P) (s : State P T) → s.running ≡ Some k → s.outcome ≡ Going → Only GoesIdle (asked_by m k s asked vs)
  asked_idle (Builtin prim) vs k s is going = primitive_idle prim vs k s is going
  asked_idle (Host x) vs k s is going = host_idle m.form x vs k s going
  asked_idle (ToSpawn f) vs k s is going = spawn f vs k s going
  asked_idle (Section f) vs k s is going = detach f vs k s going

  runs_on_idle : (s : State P T) (k : Stack P) (d : Done P) → s.running ≡ Some k → s.outcome ≡ Going → Only GoesIdle (runs_on m s k d)
  runs_on_idle s k (Went t j) is going = λ e. going
  runs_on_idle s k (Returned v t) is going = λ e. going
  runs_on_idle s k (Asks r) is going = asked_idle r.asked r.arguments k s is going

  settled_idle : (s t : State P T) (k : Stack P) (a : Answer (State P T)) → s.running ≡ Some k → Only GoesIdle a → settled m s a ≡ Some t → GoesIdle t
  settled_idle s t k (Gives u) is h e = let i : u ≡ t = cc in subst GoesIdle i h
  settled_idle s t k (Faults fault) is h e = λ none. absurd (let i = ap (λ (o : Option (State P T)). running_of o) e in let j : Some k ≡ None = sym is ∙ (i ∙ none) in cc)
    where
      running_of : Option (State P T) → Option (Stack P)
      running_of None = None
      running_of (Some u) = u.running
  settled_idle s t k NoAnswer is h e = absurd (cc)

  -- code that runs and ends the run still runs
  pub code_idle : (s t : State P T) (k : Stack P) → s.running ≡ Some k → s.outcome ≡ Going → settled m s (code_step m s k) ≡ Some t → GoesIdle t
  code_idle s t k is going e = settled_idle s t k (code_step m s k) is (any_then GoesIdle (plain m.form s.store k) _ λ d. runs_on_idle s k d is going) e

-- ---- the primitives of both machines

module _ {P : Type 0} (p : Form P) where
  suspends_idle : (s : State P (Thread P)) (r : Result (Agenda (Thread P)) Fault) → s.outcome ≡ Going → Only GoesIdle (suspends s r)
  suspends_idle s r going = any_then GoesIdle (of_result r) _ λ a e. going

  own_idle : (prim : Primitive) (vs : List Value) (k : Stack P) (s : State P (Thread P)) → s.outcome ≡ Going → Only GoesIdle (thread_primitive p prim vs k s)
  own_idle Yield [] k s going = any_then GoesIdle (waiting p k) _ λ j e. going
  own_idle Sleep (v ∷ []) k s going =
      any_then GoesIdle (int_of v) _ λ z.
      any_then GoesIdle (waiting p k) _ λ j. suspends_idle (marks (Sleeping z) s) (sleep z (Suspended j) s.agenda) going
  own_idle IoWait (v ∷ w ∷ []) k s going =
      any_then GoesIdle (int_of v) _ λ fd.
      any_then GoesIdle (int_of w) _ λ way.
      any_then GoesIdle (waiting p k) _ λ j e. going
  own_idle Wait (v ∷ []) k s going =
      any_then GoesIdle (cond_of v) _ λ c.
      any_then GoesIdle (waiting p k) _ λ j. suspends_idle (marks (Waiting c) s) (wait c (Suspended j) s.agenda) going
  own_idle _ vs k s going = tt

  spawns_idle : (f : Text) (vs : List Value) (k : Stack P) (s : State P (Thread P)) → s.outcome ≡ Going → Only GoesIdle (spawns_thread p f vs k s)
  spawns_idle f vs k s going = reply_idle p k Unset (with_agenda s (ready_one (Pending f vs) s.agenda)) going

  detaches_idle : (f : Text) (vs : List Value) (k : Stack P) (s : State P (Thread P)) → s.outcome ≡ Going → Only GoesIdle (detaches_thread p f vs k s)
  detaches_idle f vs k s going = any_then GoesIdle (waiting p k) _ λ j. rest (submits p f vs (Suspended j) s) (submits_going p f vs (Suspended j) s going)
    where
      rest : (a : Answer (State P (Thread P))) → Only (StillGoes p) a → Only GoesIdle (a >>= λ t. Gives (record t { running = None }))
      rest (Gives t) h = λ e. h
      rest (Faults fault) h = tt
      rest NoAnswer h = tt

  event_idle : (prim : Primitive) (vs : List Value) (k : Stack P) (s : State P Callback) → s.outcome ≡ Going → Only GoesIdle (event_primitive p prim vs k s)
  event_idle RtFrame (v ∷ []) k s going = replies_idle p k (allocated FrameClass v s.store) s going
  event_idle RtBox (v ∷ []) k s going = replies_idle p k (allocated Auto v s.store) s going
  event_idle RtFrameFree (v ∷ []) k s going = replies_idle p k (freed FrameClass v s.store) s going
  event_idle RtUnbox (v ∷ []) k s going = replies_idle p k (freed Auto v s.store) s going
  event_idle RtReady (Code f ∷ x ∷ []) k s going = acts_idle p k (Ok (ready_one (CallWith f x) s.agenda)) s going
  event_idle RtWait (v ∷ Code f ∷ x ∷ []) k s going = any_then GoesIdle (cond_of v) _ λ c. acts_idle p k (wait c (CallWith f x) s.agenda) (marks (Waiting c) s) going
  event_idle RtSleep (v ∷ Code f ∷ x ∷ []) k s going = any_then GoesIdle (int_of v) _ λ z. acts_idle p k (sleep z (CallWith f x) s.agenda) (marks (Sleeping z) s) going
  event_idle RtIo (v ∷ w ∷ Code f ∷ x ∷ []) k s going =
      any_then GoesIdle (int_of v) _ λ fd.
      any_then GoesIdle (int_of w) _ λ way. acts_idle p k (Ok (io fd (direction_of way) (CallWith f x) s.agenda)) (marks (Awaiting fd (direction_of way)) s) going
  event_idle RtDetach (Code f ∷ x ∷ Code g ∷ vs) k s going = only_then (StillGoes p) GoesIdle (submits p g vs (CallWith f x) s) _ (submits_going p g vs (CallWith f x) s going) (λ t goes. reply_idle p k Unset t goes)
  event_idle _ vs k s going = tt

  pub thread_idle : (s t : State P (Thread P)) (k : Stack P) → s.running ≡ Some k → s.outcome ≡ Going → settled (threads_of p) s (code_step (threads_of p) s k) ≡ Some t → GoesIdle t
  thread_idle = code_idle (threads_of p) own_idle spawns_idle detaches_idle

  pub callback_idle : (s t : State P Callback) (k : Stack P) → s.running ≡ Some k → s.outcome ≡ Going → settled (callbacks_of p) s (code_step (callbacks_of p) s k) ≡ Some t → GoesIdle t
  callback_idle = code_idle (callbacks_of p) event_idle (λ f vs k s going. tt) (λ f vs k s going. tt)

-- ---- turns

-- nothing but the trace, the history and the outcome differs
pub record IsKept {P T : Type 0} (s t : State P T) : Type 0 where
  pub store : t.store ≡ s.store
  pub running : t.running ≡ s.running
  pub agenda : t.agenda ≡ s.agenda

-- so it is where the run is over
abbrev pub KeptIfOver : {P T : Type 0} → State P T → State P T → Type 0
KeptIfOver s t = is_over t.outcome ≡ true → IsKept s t

module _ {P T : Type 0} (m : Machine P T) (s : State P T) (going : s.outcome ≡ Going) where
  not_over : {X : Type 0} → is_over s.outcome ≡ true → X
  not_over over = absurd (let i = ap is_over going in cc)

  polled_kept : (told : Told) (left : List Told) (c : Collected) → Only (KeptIfOver s) (polled m told (told_state told left s) c)
  polled_kept told left (AllGave vs t) = λ over. not_over over
  polled_kept told left (OneFailed fault f) = λ over. record { store = refl; running = refl; agenda = refl }
  polled_kept told left NotClear = tt

  takes_kept : (told : Told) (left : List Told) (n : Option ℕ) → Only (KeptIfOver s) (takes_poll m s told left n)
  takes_kept told left (Some n) = λ over. record { store = refl; running = refl; agenda = refl }
  takes_kept told left None = polled_kept told left _

  poll_kept : (polls : List Told) → Only (KeptIfOver s) (next_poll m s polls)
  poll_kept [] = λ over. record { store = refl; running = refl; agenda = refl }
  poll_kept (told ∷ left) = takes_kept told left (not_out (completed told.events) (out s.agenda))

  round_kept : (n : Bool) → KeptIfOver s (next_round s n)
  round_kept true = λ over. record { store = refl; running = refl; agenda = refl }
  round_kept false = λ over. not_over over

  turns_where_kept : (n : Bool) → Only (KeptIfOver s) (turns_where m s n)
  turns_where_kept true = poll_kept s.history.polls
  turns_where_kept false = round_kept (is_empty s.agenda.ready)

  -- a turn that ends the run keeps store and agenda
  pub turns_kept : Only (KeptIfOver s) (turns m s)
  turns_kept = turns_where_kept (needs_poll s.agenda)

-- ---- nothing runs

-- a state that is over has nothing running
abbrev pub RestsIfOver : {P T : Type 0} → State P T → Type 0
RestsIfOver s = is_over s.outcome ≡ true → s.running ≡ None

module _ {P : Type 0} (p : Form P) (s : State P (Thread P)) (going : s.outcome ≡ Going) (none : s.running ≡ None) where
  abbrev left : List (Due (Thread P)) → State P (Thread P)
  left ds = with_agenda s (record s.agenda { round = ds })

  runs_over : (k : Stack P) (t : Store) (ds : List (Due (Thread P))) → RestsIfOver (record (left ds) { store = t; running = Some k })
  runs_over k t ds over = absurd (let i = ap is_over going in cc)

  taken_rests : (item : Thread P) (v : Value) (ds : List (Due (Thread P))) → Only RestsIfOver (starts_thread p item v (left ds))
  taken_rests (Pending f vs) v ds =
      any_then RestsIfOver (needed (function_named p.program f)) _ λ g.
      any_then RestsIfOver (make_frame p g vs s.store) _ λ r. runs_over (stack_of r.0) r.1 ds
  taken_rests (Suspended k) v ds = runs_over (record k { arriving = Some v }) s.store ds

  schedules_rest : (round : List (Due (Thread P))) → Only RestsIfOver (schedules (threads_of p) s round)
  schedules_rest [] = only_as (KeptIfOver s) RestsIfOver (turns (threads_of p) s) (λ t kept over. (kept over).running ∙ none) (turns_kept (threads_of p) s going)
  schedules_rest (d ∷ ds) = taken_rests d.item d.result ds

  settled_rests : (t : State P (Thread P)) (u : Answer (State P (Thread P))) → Only RestsIfOver u → settled (threads_of p) s u ≡ Some t → RestsIfOver t
  settled_rests t (Gives u) h e = let i : u ≡ t = cc in subst RestsIfOver i h
  settled_rests t (Faults fault) h e = let i : ends (Failed fault (shown_in p.program (fault_function s.running))) s ≡ t = cc in λ over. sym (ap (λ (u : State P (Thread P)). u.running) i) ∙ none
  settled_rests t NoAnswer h e = absurd (cc)

  -- where nothing runs, a step that ends the run leaves nothing running
  pub idle_rests : (t : State P (Thread P)) → settled (threads_of p) s (schedules (threads_of p) s s.agenda.round) ≡ Some t → RestsIfOver t
  idle_rests t e = settled_rests t (schedules (threads_of p) s s.agenda.round) (schedules_rest s.agenda.round) e
