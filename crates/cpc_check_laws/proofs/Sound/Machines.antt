-- A machine of a typed program: what holds of its states is kept by each step, and a state that goes on has a step.
use Rattle.std.proofs.Common.{◌≡◌, ◌⊎◌, inl, inr, ℕ, zero, suc, ℤ, pos, Bool, true, false, List, [], ◌∷◌, ◌++◌, Option, Some, None, Result, Ok, Err, refl, sym, subst}
use Rattle.cpc_base.specs.Bytes.{Text}
use Rattle.cpc_base.specs.declared.stop.Dialect.{Dialect}
use Rattle.cpc_base.specs.declared.stop.Dialect.TheVariants as D
use Rattle.cpc_base.proofs.Truth.{by_false_true}
use Rattle.std.specs.Fmt.{signed_decimal}
use Rattle.cpc_num.specs.declared.kinds.Fault.{Fault}
use Rattle.cpc_num.specs.declared.kinds.Kind.{Kind}
use Rattle.cpc_tree.specs.declared.program.Mode.{Mode}
use Rattle.cpc_tree.specs.Syntax.{Ty, TyVoid, TyInt, TyCondvar, TyPointer, Function, Program}
use Rattle.cpc_tree.specs.Lists.{is_empty, first_or, rest_of}
use Rattle.cpc_tree.specs.Typing.{function_named, parameter_types}
use Rattle.cpc_tree.specs.Points.{Point}
use Rattle.cpc_tree.specs.Primitives.{Primitive, Print, Putc, Puts, Now, CondNew, CondFree, Signal, SignalAll, Exit, Malloc, Free}
use Rattle.cpc_tree.specs.Trace.{Told, Output, HostCall, Submitted, Outcome, Going, Ended, Exited, Failed, HistoryEnded, BadHistory, is_over}
use Rattle.cpc_tree.specs.Registers.{variables}
use Rattle.cpc_num.specs.declared.kinds.Kind.TheVariants.{Int, Long}
use Rattle.cpc_store.specs.declared.values.Class.TheVariants.{Heap}
use Rattle.cpc_store.specs.Store.{Value, Unset, Whole, Null, At, Code, Cond, Store}
use Rattle.cpc_meaning_matching.specs.Steps.{or_stay}
use Rattle.cpc_meaning_matching.specs.Systems.{NeverStuck, run, NotStuck}
use Rattle.cpc_meaning.specs.Answer.{Answer, Gives, Faults, NoAnswer, ◌>>=◌, of_result, needed}
use Rattle.cpc_meaning.specs.Requests.{Asked}
use Rattle.cpc_meaning.specs.Plain.{Stack, Done, Went, Returned, Asks, plain, answered, make_frame}
use Rattle.cpc_meaning.specs.Trees.{trees}
use Rattle.cpc_meaning.specs.Agenda.{Agenda, Due, new_agenda, begin_round, cond_new, cond_free, signal, signal_all, section, needs_poll, completed, out, not_out, poll}
use Rattle.cpc_meaning.specs.History.{History}
use Rattle.cpc_meaning.specs.Section.{Job, allocated, freed}
use Rattle.cpc_meaning.specs.Copies.{copy_of, Collected, AllGave, OneFailed, NotClear}
use Rattle.cpc_meaning.specs.Machine.{State, Machine, marks, with_agenda, with_store, runs, after_done, reply, prints, replies, acts, primitive, ints_of, first_answer, host_call, asked_by, submits, polled, told_state, takes_poll, next_poll, next_round, turns_where, schedules, runs_on, code_step, step_running, settled, try_step, unless_over, next}
use Rattle.cpc_meaning.specs.Matching.{system}
use Rattle.cpc_check_laws.specs.Sound.Suits.{Comes, Suits}
use Rattle.cpc_check_laws.specs.Sound.Typed.{TypedProgram, is_for}
use Rattle.cpc_check_rules.specs.Calls.{gives}
use Rattle.cpc_meaning.proofs.Functions.{found_again}
use Rattle.cpc_check_laws.proofs.Sound.Answers.{comes_then, comes_needed}
use Rattle.cpc_check_laws.proofs.Sound.Requests.{AllSuit, IsWhole, AllWhole, IsCond, SectionGiven, PrimitiveGiven, IsRequest, AsksPrimitive, AsksHost, AsksSpawn, AsksSection}
use Rattle.cpc_check_laws.proofs.Sound.Frames.{Running, Asking, DoneOk, WentOk, entered, frame_comes, plain_comes, answer_comes, Given}
use Rattle.cpc_check_laws.proofs.Sound.Agendas.{Each, each_append, each_map, OkThen, DueOk, OutOk, AgendaOk, new_ok, ready_one_ok, begin_round_ok, cond_new_ok, cond_free_ok, signal_ok, signal_all_ok, section_ok, more_out, poll_ok, out_are}
use Rattle.cpc_check_laws.proofs.Sound.Sections.{StoreActOk, allocated_comes, freed_comes, JobOk, HasJob, CollectedOk, collect_ok, copy_comes, submitted_ok, more_jobs, last_job}

pub whole_is : (P : Value → Type 0) (v : Value) → IsWhole v → ((kind : Kind) (z : ℤ) → P (Whole kind z)) → P v
whole_is P (Whole kind z) h f = f kind z
whole_is P _ h f = absurd h

pub cond_is : (P : Value → Type 0) (v : Value) → IsCond v → ((n : ℕ) → P (Cond n)) → P v
cond_is P (Cond n) h f = f n
cond_is P _ h f = absurd h

pub ok_comes : {A B : Type 0} (P : A → Type 0) (Q : B → Type 0) (r : Result A Fault) (f : A → Answer B) → OkThen P r → ((x : A) → P x → Comes Q (f x)) → Comes Q (of_result r >>= f)
ok_comes P Q (Ok x) f h k = k x h
ok_comes P Q (Err fault) f h k = tt

module _ (d : Dialect) (p : Program) (typed : TypedProgram d p) {T : Type 0} (Fine : T → Type 0) where
  abbrev pub RunningOk : Option (Stack Point) → Type 0
  RunningOk None = Unit {0}
  RunningOk (Some k) = (R : Ty) × Running d p false R k.frames k.arriving

  pub record RestOk (a : Agenda T) (jobs : List Job) : Type 0 where
    pub agenda : AgendaOk Fine (HasJob d p typed jobs) a
    pub jobs_ok : Each (JobOk d p typed) jobs

  -- what holds of all states
  abbrev pub StateOk : State Point T → Type 0
  StateOk s = RunningOk s.running × RestOk s.agenda s.jobs

  pub with_agenda_ok : (a b : Agenda T) (jobs : List Job) → RestOk a jobs → AgendaOk Fine (HasJob d p typed jobs) b → RestOk b jobs
  with_agenda_ok a b jobs h k = record { agenda = k; jobs_ok = h.jobs_ok }

  -- ---- answers

  pub reply_comes : (R r : Ty) (k : Stack Point) (v : Value) (s : State Point T) → RestOk s.agenda s.jobs → Asking d p false R r k.frames → Suits r v → Comes StateOk (reply (trees p) k v s)
  reply_comes R r k v s rest h i = comes_then (WentOk d p false R s.store) StateOk (answered (trees p) s.store k v) (after_done s) (answer_comes d p typed false R r s.store k v h i) go
    where
      go : (x : Done Point) → WentOk d p false R s.store x → Comes StateOk (after_done s x)
      go (Went t j) l = ((R, l.0), rest)
      go (Returned w t) l = absurd l
      go (Asks q) l = absurd l

  pub replies_come : (R r t : Ty) (k : Stack Point) (act : Answer (Store × Value)) (s : State Point T) → RestOk s.agenda s.jobs → Asking d p false R r k.frames → ((v : Value) → Suits t v → Suits r v) → Comes (StoreActOk t s.store) act
      → Comes StateOk (replies (trees p) k act s)
  replies_come R r t k act s rest h same i = comes_then (StoreActOk t s.store) StateOk act _ i (λ x j. reply_comes R r k x.1 (with_store s x.0) rest h (same x.1 j.1))

  pub acts_come : (R : Ty) (k : Stack Point) (r : Result (Agenda T) Fault) (s : State Point T) → RestOk s.agenda s.jobs → Asking d p false R TyVoid k.frames → OkThen (AgendaOk Fine (HasJob d p typed s.jobs)) r
      → Comes StateOk (acts (trees p) k r s)
  acts_come R k r s rest h i = ok_comes (AgendaOk Fine (HasJob d p typed s.jobs)) StateOk r _ i (λ a j. reply_comes R TyVoid k Unset (with_agenda s a) (with_agenda_ok s.agenda a s.jobs rest j) h tt)

  -- a function is run
  pub runs_come : (x : Text) (g : Function) (vs : List Value) (s : State Point T) → function_named p x ≡ Some g → Given (variables g) vs → RestOk s.agenda s.jobs → Comes StateOk (runs (trees p) x vs s)
  runs_come x g vs s is_g h rest =
      comes_needed StateOk (function_named p x) g _ is_g
      (comes_then (entered d p typed false g s.store) StateOk (make_frame (trees p) g vs s.store) _ (frame_comes d p typed false g vs s.store (found_again p x g is_g) (λ e. by_false_true e) h)
      (λ r k. ((g.result, (g, k.1, k.2, refl)), rest)))

  -- ---- sections

  pub submits_come : (x : Text) (vs : List Value) (item : T) (s : State Point T) → SectionGiven p x vs → Fine item → RestOk s.agenda s.jobs
      → Comes (λ (t : State Point T). (t.running ≡ s.running) × (t.store ≡ s.store) × RestOk t.agenda t.jobs) (submits (trees p) x vs item s)
  submits_come x vs item s g h rest = go (section item s.agenda) refl
    where
      go : (r : Result (Agenda T) Fault) → section item s.agenda ≡ r → Comes (λ (t : State Point T). (t.running ≡ s.running) × (t.store ≡ s.store) × RestOk t.agenda t.jobs)
          (of_result r >>= (λ a. needed (function_named p x) >>= (λ g. copy_of p g (first_or Unset vs) s.store >>= (λ cells. Gives (marks (Submitted s.agenda.sections_made x) (record s {
            agenda = a;
            jobs = s.jobs ++ record { number = s.agenda.sections_made; function = x; arguments = rest_of vs; cells = cells; pointer = first_or Unset vs } ∷ [];
          }))))))
      go (Err fault) e = tt
      go (Ok a) e =
          comes_needed (λ (t : State Point T). (t.running ≡ s.running) × (t.store ≡ s.store) × RestOk t.agenda t.jobs) (function_named p x) g.0 _ g.1.is_function
          (comes_then (λ (cells : List Value). Unit {0}) (λ (t : State Point T). (t.running ≡ s.running) × (t.store ≡ s.store) × RestOk t.agenda t.jobs) (copy_of p g.0 (first_or Unset vs) s.store) _
          (copy_comes d p typed x g.0 (first_or Unset vs) s.store g.1) λ cells k.
          let job : Job = record { number = s.agenda.sections_made; function = x; arguments = rest_of vs; cells = cells; pointer = first_or Unset vs } in
          let job_ok = submitted_ok d p typed x g.0 vs s.agenda.sections_made cells (first_or Unset vs) g.1 g.2 in
          let more : List Job = s.jobs ++ job ∷ [] in
          let known = more_out Fine (HasJob d p typed s.jobs) (HasJob d p typed more) s.agenda (λ n l. more_jobs d p typed s.jobs (job ∷ []) n l) rest.agenda in
          let out = section_ok Fine (HasJob d p typed more) item s.agenda h (last_job d p typed s.jobs job rest.jobs_ok job_ok) known in
          (refl, refl, record { agenda = subst (OkThen (AgendaOk Fine (HasJob d p typed more))) e out; jobs_ok = each_append (JobOk d p typed) s.jobs (job ∷ []) rest.jobs_ok (job_ok, tt) }))

-- the primitives that both machines have
abbrev pub is_shared : Primitive → Bool
is_shared Print = true
is_shared Putc = true
is_shared Puts = true
is_shared Now = true
is_shared CondNew = true
is_shared CondFree = true
is_shared Signal = true
is_shared SignalAll = true
is_shared Exit = true
is_shared Malloc = true
is_shared Free = true
is_shared prim = false

-- what a machine does of its own
pub record OwnOk (d : Dialect) (p : Program) (typed : TypedProgram d p) {T : Type 0} (Fine : T → Type 0) (m : Machine Point T) : Type 0 where
  pub starts : (item : T) (v : Value) (s : State Point T) → Fine item → Suits (TyInt Int) v → RestOk d p typed Fine s.agenda s.jobs → Comes (StateOk d p typed Fine) (m.start item v s)
  pub owns : (R : Ty) (prim : Primitive) (vs : List Value) (k : Stack Point) (s : State Point T) → is_shared prim ≡ false → is_for d prim ≡ true → PrimitiveGiven p prim vs
      → Asking d p false R (gives prim) k.frames → RestOk d p typed Fine s.agenda s.jobs → Comes (StateOk d p typed Fine) (m.own prim vs k s)
  pub spawns : (R : Ty) (x : Text) (vs : List Value) (k : Stack Point) (s : State Point T) (g : Function) → d ≡ D.Cpc → function_named p x ≡ Some g → AllSuit (parameter_types g) vs
      → Asking d p false R TyVoid k.frames → RestOk d p typed Fine s.agenda s.jobs → Comes (StateOk d p typed Fine) (m.spawn x vs k s)
  pub detaches : (R : Ty) (x : Text) (vs : List Value) (k : Stack Point) (s : State Point T) → d ≡ D.Cpc → SectionGiven p x vs
      → Asking d p false R (TyInt Int) k.frames → RestOk d p typed Fine s.agenda s.jobs → Comes (StateOk d p typed Fine) (m.detach x vs k s)

module _ (d : Dialect) (p : Program) (typed : TypedProgram d p) {T : Type 0} (Fine : T → Type 0)
    (start : T → Value → State Point T → Answer (State Point T)) (own : Primitive → List Value → Stack Point → State Point T → Answer (State Point T))
    (spawn detach : Text → List Value → Stack Point → State Point T → Answer (State Point T)) (shown : Text → Text) where
  abbrev m : Machine Point T
  m = record { form = trees p; start = start; own = own; spawn = spawn; detach = detach; shown = shown }

  abbrev Good : State Point T → Type 0
  Good = StateOk d p typed Fine

  abbrev Rest : State Point T → Type 0
  Rest s = RestOk d p typed Fine s.agenda s.jobs

  module _ (own_ok : OwnOk d p typed Fine m) where
    prints_come : (R : Ty) (k : Stack Point) (bytes : Text) (s : State Point T) → Rest s → Asking d p false R TyVoid k.frames → Comes Good (prints (trees p) k bytes s)
    prints_come R k bytes s rest h = reply_comes d p typed Fine R TyVoid k Unset (marks (Output bytes) s) rest h tt

    -- a shared primitive, or one of the machine
    primitive_comes : (R : Ty) (prim : Primitive) (vs : List Value) (k : Stack Point) (s : State Point T) → is_for d prim ≡ true → PrimitiveGiven p prim vs → Asking d p false R (gives prim) k.frames → Good s → Comes Good (primitive m prim vs k s)
    primitive_comes R Print (v ∷ []) k s e g h ok = whole_is (λ v. Comes Good (primitive m Print (v ∷ []) k s)) v g.0 (λ kind z. prints_come R k (signed_decimal z ++ 10 ∷ []) s ok.1 h)
    primitive_comes R Print [] k s e g h ok = absurd g
    primitive_comes R Print (v ∷ w ∷ vs) k s e g h ok = absurd g.1
    primitive_comes R Putc (v ∷ []) k s e g h ok = prints_come R k _ s ok.1 h
    primitive_comes R Putc [] k s e g h ok = absurd g
    primitive_comes R Putc (v ∷ w ∷ vs) k s e g h ok = absurd g.1
    primitive_comes R Puts vs k s e g h ok = prints_come R k _ s ok.1 h
    primitive_comes R Now [] k s e g h ok = reply_comes d p typed Fine R (TyInt Long) k (Whole Long (pos s.agenda.now)) s ok.1 h refl
    primitive_comes R Now (v ∷ vs) k s e g h ok = absurd g
    primitive_comes R CondNew [] k s e g h ok =
        reply_comes d p typed Fine R TyCondvar k (Cond s.agenda.conditions_made) (with_agenda s (cond_new s.agenda)) (with_agenda_ok d p typed Fine s.agenda (cond_new s.agenda) s.jobs ok.1 (cond_new_ok Fine (HasJob d p typed s.jobs) s.agenda ok.1.agenda)) h tt
    primitive_comes R CondNew (v ∷ vs) k s e g h ok = absurd g
    primitive_comes R CondFree (v ∷ []) k s e g h ok =
        cond_is (λ v. Comes Good (primitive m CondFree (v ∷ []) k s)) v g.0 (λ n. acts_come d p typed Fine R k (cond_free n s.agenda) s ok.1 h (cond_free_ok Fine (HasJob d p typed s.jobs) n s.agenda ok.1.agenda))
    primitive_comes R CondFree [] k s e g h ok = absurd g
    primitive_comes R CondFree (v ∷ w ∷ vs) k s e g h ok = absurd g.1
    primitive_comes R Signal (v ∷ []) k s e g h ok =
        cond_is (λ v. Comes Good (primitive m Signal (v ∷ []) k s)) v g.0 (λ n. acts_come d p typed Fine R k (signal n s.agenda) s ok.1 h (signal_ok Fine (HasJob d p typed s.jobs) n s.agenda ok.1.agenda))
    primitive_comes R Signal [] k s e g h ok = absurd g
    primitive_comes R Signal (v ∷ w ∷ vs) k s e g h ok = absurd g.1
    primitive_comes R SignalAll (v ∷ []) k s e g h ok =
        cond_is (λ v. Comes Good (primitive m SignalAll (v ∷ []) k s)) v g.0 (λ n. acts_come d p typed Fine R k (signal_all n s.agenda) s ok.1 h (signal_all_ok Fine (HasJob d p typed s.jobs) n s.agenda ok.1.agenda))
    primitive_comes R SignalAll [] k s e g h ok = absurd g
    primitive_comes R SignalAll (v ∷ w ∷ vs) k s e g h ok = absurd g.1
    primitive_comes R Exit (v ∷ []) k s e g h ok = whole_is (λ v. Comes Good (primitive m Exit (v ∷ []) k s)) v g.0 (λ kind z. ok)
    primitive_comes R Exit [] k s e g h ok = absurd g
    primitive_comes R Exit (v ∷ w ∷ vs) k s e g h ok = absurd g.1
    primitive_comes R Malloc (v ∷ []) k s e g h ok = replies_come d p typed Fine R (TyPointer TyVoid) (TyPointer TyVoid) k (allocated Heap v s.store) s ok.1 h (λ v i. i) (allocated_comes Heap v s.store refl g.0)
    primitive_comes R Malloc [] k s e g h ok = absurd g
    primitive_comes R Malloc (v ∷ w ∷ vs) k s e g h ok = absurd g.1
    primitive_comes R Free (v ∷ []) k s e g h ok = replies_come d p typed Fine R TyVoid TyVoid k (freed Heap v s.store) s ok.1 h (λ v i. i) (freed_comes Heap v s.store refl)
    primitive_comes R Free [] k s e g h ok = absurd g
    primitive_comes R Free (v ∷ w ∷ vs) k s e g h ok = absurd g.1
    primitive_comes R prim vs k s e g h ok = own_ok.owns R prim vs k s refl e g h ok.1

    ints_come : (vs : List Value) → AllWhole vs → Comes (λ (zs : List ℤ). Unit {0}) (ints_of vs)
    ints_come [] h = tt
    ints_come (Whole kind z ∷ vs) h = comes_then (λ (zs : List ℤ). Unit {0}) (λ (zs : List ℤ). Unit {0}) (ints_of vs) _ (ints_come vs h.1) (λ zs k. tt)
    ints_come (Unset ∷ vs) h = absurd h.0
    ints_come (Null ∷ vs) h = absurd h.0
    ints_come (At c n k ∷ vs) h = absurd h.0
    ints_come (Code f ∷ vs) h = absurd h.0
    ints_come (Cond n ∷ vs) h = absurd h.0

    host_comes : (R : Ty) (x : Text) (vs : List Value) (k : Stack Point) (s : State Point T) → AllWhole vs → Asking d p false R (TyInt Long) k.frames → Good s → Comes Good (host_call (trees p) x vs k s)
    host_comes R x vs k s w h ok = comes_then (λ (zs : List ℤ). Unit {0}) Good (ints_of vs) _ (ints_come vs w) (λ zs i.
        reply_comes d p typed Fine R (TyInt Long) k (Whole Long (first_answer s.history.answers)) (marks (HostCall x zs (first_answer s.history.answers)) (record s { history = record s.history { answers = rest_of s.history.answers } })) ok.1 h refl)

    asked_comes : (R : Ty) (mode : Mode) (asked : Asked) (vs : List Value) (t : Ty) (k : Stack Point) (s : State Point T) → IsRequest d p mode asked vs t → Asking d p false R t k.frames → Good s → Comes Good (asked_by m k s asked vs)
    asked_comes R mode _ _ _ k s (AsksPrimitive prim vs e closed g) h ok = primitive_comes R prim vs k s e g h ok
    asked_comes R mode _ _ _ k s (AsksHost x vs apart w) h ok = host_comes R x vs k s w h ok
    asked_comes R mode _ _ _ k s (AsksSpawn x vs g is_open is_g w) h ok = own_ok.spawns R x vs k s g is_open.dialect is_g w h ok.1
    asked_comes R mode _ _ _ k s (AsksSection x vs is_open w) h ok = own_ok.detaches R x vs k s is_open.dialect w h ok.1

    -- ---- the loop

    runs_on_come : (R : Ty) (k : Stack Point) (s : State Point T) (x : Done Point) → DoneOk d p false R s.store k.frames x → Good s → Comes Good (runs_on m s k x)
    runs_on_come R k s (Went t j) h ok = ((R, h.0), ok.1)
    runs_on_come R k s (Returned v t) h ok = (tt, ok.1)
    runs_on_come R k s (Asks r) h ok = asked_comes R h.0 r.asked r.arguments h.2.0 k s h.2.1 h.2.2 ok

    code_comes : (R : Ty) (k : Stack Point) (s : State Point T) → Running d p false R k.frames k.arriving → Good s → Comes Good (code_step m s k)
    code_comes R k s h ok = comes_then (DoneOk d p false R s.store k.frames) Good (plain (trees p) s.store k) _ (plain_comes d p typed false R s.store k h) (λ x i. runs_on_come R k s x i ok)

    polled_comes : (told : Told) (s : State Point T) (c : Collected) → CollectedOk d p typed c → Good s → Comes Good (polled m told s c)
    polled_comes told s (AllGave vs t) h ok =
        (ok.0, with_agenda_ok d p typed Fine s.agenda (begin_round (poll told vs s.agenda)) s.jobs ok.1 (begin_round_ok Fine (HasJob d p typed s.jobs) (poll told vs s.agenda) (poll_ok Fine (HasJob d p typed s.jobs) told vs s.agenda h ok.1.agenda)))
    polled_comes told s (OneFailed fault f) h ok = ok
    polled_comes told s NotClear h ok = absurd h

    takes_come : (s : State Point T) (told : Told) (polls : List Told) (o : Option ℕ) → not_out (completed told.events) (out s.agenda) ≡ o → Good s → Comes Good (takes_poll m s told polls o)
    takes_come s told polls (Some n) e ok = ok
    takes_come s told polls None e ok =
        polled_comes told (told_state told polls s) _ (collect_ok d p typed s.history.section_bound s.jobs (completed told.events) s.store
        (out_are (HasJob d p typed s.jobs) (completed told.events) (out s.agenda) e
        (each_map (OutOk Fine (HasJob d p typed s.jobs)) (HasJob d p typed s.jobs) (λ s. s.section) s.agenda.sections (λ w h. h.1) ok.1.agenda.sections))) ok

    poll_comes : (s : State Point T) (polls : List Told) → Good s → Comes Good (next_poll m s polls)
    poll_comes s [] ok = ok
    poll_comes s (told ∷ polls) ok = takes_come s told polls (not_out (completed told.events) (out s.agenda)) refl ok

    round_good : (s : State Point T) (b : Bool) → Good s → Good (next_round s b)
    round_good s true ok = ok
    round_good s false ok = (ok.0, with_agenda_ok d p typed Fine s.agenda (begin_round s.agenda) s.jobs ok.1 (begin_round_ok Fine (HasJob d p typed s.jobs) s.agenda ok.1.agenda))

    turns_come : (s : State Point T) (b : Bool) → Good s → Comes Good (turns_where m s b)
    turns_come s true ok = poll_comes s s.history.polls ok
    turns_come s false ok = round_good s (is_empty s.agenda.ready) ok

    schedules_come : (s : State Point T) (round : List (Due T)) → s.agenda.round ≡ round → Good s → Comes Good (schedules m s round)
    schedules_come s [] e ok = turns_come s (needs_poll s.agenda) ok
    schedules_come s (x ∷ xs) e ok =
        let h : Each (DueOk Fine (HasJob d p typed s.jobs)) (x ∷ xs) = subst (Each (DueOk Fine (HasJob d p typed s.jobs))) e ok.1.agenda.round in
        own_ok.starts x.item x.result (with_agenda s (record s.agenda { round = xs })) h.0.0 h.0.1
        (with_agenda_ok d p typed Fine s.agenda (record s.agenda { round = xs }) s.jobs ok.1
        (record { ready = ok.1.agenda.ready; round = h.1; waiters = ok.1.agenda.waiters; descriptors = ok.1.agenda.descriptors; timers = ok.1.agenda.timers; sections = ok.1.agenda.sections }))

    step_comes : (s : State Point T) (o : Option (Stack Point)) → RunningOk d p typed Fine o → Good s → Comes Good (step_running m s o)
    step_comes s None h ok = schedules_come s s.agenda.round refl ok
    step_comes s (Some k) h ok = code_comes h.0 k s h.1 ok

    -- a step is there, and what holds of states is kept
    settled_good : (s : State Point T) (a : Answer (State Point T)) → Comes Good a → Good s → (t : State Point T) × (settled m s a ≡ Some t) × Good t
    settled_good s (Gives t) h ok = (t, refl, h)
    settled_good s (Faults fault) h ok = (_, refl, ok)
    settled_good s NoAnswer h ok = absurd h

    step_good : (s : State Point T) → Good s → (t : State Point T) × (try_step m s ≡ Some t) × Good t
    step_good s ok = settled_good s (step_running m s s.running) (step_comes s s.running ok.0 ok) ok

    next_good : (s : State Point T) → Good s → ((is_over s.outcome ≡ true) × (next m s ≡ None)) ⊎ ((t : State Point T) × (next m s ≡ Some t) × Good t)
    next_good s ok = go s.outcome (step_good s ok)
      where
        go : (o : Outcome) → (t : State Point T) × (try_step m s ≡ Some t) × Good t → ((is_over o ≡ true) × (unless_over o (try_step m s) ≡ None)) ⊎ ((t : State Point T) × (unless_over o (try_step m s) ≡ Some t) × Good t)
        go Going h = inr h
        go (Ended n) h = inl (refl, refl)
        go (Exited z) h = inl (refl, refl)
        go (Failed fault f) h = inl (refl, refl)
        go HistoryEnded h = inl (refl, refl)
        go (BadHistory n) h = inl (refl, refl)

    module _ (item : T) (fine : Fine item) (h : History) where
      good_step : (s : State Point T) → Good s → Good (or_stay s (next m s))
      good_step s ok = go (next_good s ok)
        where
          go : (((is_over s.outcome ≡ true) × (next m s ≡ None)) ⊎ ((t : State Point T) × (next m s ≡ Some t) × Good t)) → Good (or_stay s (next m s))
          go (inl k) = subst (λ o. Good (or_stay s o)) (sym k.1) ok
          go (inr k) = subst (λ o. Good (or_stay s o)) (sym k.1) k.2

      good_run : (n : ℕ) → Good (run (system m item h) n)
      good_run zero = (tt, record { agenda = ready_one_ok Fine (HasJob d p typed []) item new_agenda fine (new_ok Fine (HasJob d p typed [])); jobs_ok = tt })
      good_run (suc n) = good_step (run (system m item h) n) (good_run n)

      -- no state of the run is stuck
      pub runs_on_and_on : NeverStuck is_over (system m item h)
      runs_on_and_on = record { here = λ n. go (run (system m item h) n) (next_good (run (system m item h) n) (good_run n)) }
        where
          go : (s : State Point T) → (((is_over s.outcome ≡ true) × (next m s ≡ None)) ⊎ ((t : State Point T) × (next m s ≡ Some t) × Good t)) → NotStuck is_over (system m item h) s
          go s (inl k) = inl k.0
          go s (inr k) = inr (k.0, k.1)
