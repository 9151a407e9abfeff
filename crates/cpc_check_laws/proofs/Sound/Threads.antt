-- The threads of a typed program are never stuck.
use Rattle.std.proofs.Common.{◌≡◌, true, false, List, [], ◌∷◌, Option, Some, None, Result, Ok, sym}
use Rattle.cpc_base.specs.Bytes.{Text}
use Rattle.cpc_base.specs.declared.stop.Dialect.TheVariants as D
use Rattle.cpc_base.proofs.Truth.{by_false_true}
use Rattle.cpc_num.specs.declared.kinds.Fault.{Fault}
use Rattle.cpc_num.specs.declared.kinds.Kind.TheVariants.{Int}
use Rattle.cpc_tree.specs.Syntax.{Ty, TyVoid, TyInt, TyCondvar, TyPointer, TyCode, TyStruct, TyArray, Expr, Function, Program}
use Rattle.cpc_tree.specs.Typing.{Scope, function_named}
use Rattle.cpc_tree.specs.Points.{Point}
use Rattle.cpc_tree.specs.Primitives.{Primitive, Print, Putc, Puts, Now, CondNew, CondFree, Signal, SignalAll, Exit, Malloc, Free, Yield, Sleep, IoWait, Wait}
use Rattle.cpc_tree.specs.Registers.{variables}
use Rattle.cpc_tree.specs.Trace.{Sleeping, Waiting as WaitingMark, Awaiting}
use Rattle.cpc_store.specs.Store.{Value, Unset, Whole}
use Rattle.cpc_meaning.specs.Plain.{Frame, Stack, waiting}
use Rattle.cpc_meaning.specs.Trees.{trees}
use Rattle.cpc_meaning.specs.Agenda.{Agenda, ready_one, wait, sleep, io}
use Rattle.cpc_meaning.specs.Machine.{State, marks, with_agenda, submits, direction_of}
use Rattle.cpc_meaning.specs.Threads.{Thread, Pending, Suspended, starts_thread, suspends, thread_primitive, spawns_thread, detaches_thread, shown_in, threads}
use Rattle.cpc_meaning.specs.Start.{main_name}
use Rattle.cpc_check_rules.specs.Calls.{gives}
use Rattle.cpc_check_laws.specs.Sound.Suits.{Comes, Suits, converts}
use Rattle.cpc_check_laws.specs.Sound.Typed.{Delivers, TypedProgram, is_for}
use Rattle.cpc_check_laws.specs.Sound.Promises.{TypedThreadsNeverStuck}
use Rattle.cpc_check_laws.proofs.Sound.Answers.{comes_then, comes_as}
use Rattle.cpc_check_laws.proofs.Sound.Requests.{SectionGiven, PrimitiveGiven}
use Rattle.cpc_check_laws.proofs.Sound.Frames.{given, Asking, Waiting, waiting_comes, resumes, Given, given_none}
use Rattle.cpc_check_laws.proofs.Sound.Agendas.{OkThen, AgendaOk, ready_one_ok, wait_ok, sleep_ok, io_ok}
use Rattle.cpc_check_laws.proofs.Sound.Sections.{HasJob}
use Rattle.cpc_check_laws.proofs.Sound.Machines.{whole_is, cond_is, ok_comes, RestOk, StateOk, with_agenda_ok, reply_comes, runs_come, submits_come, is_shared, OwnOk, runs_on_and_on}

-- no value is given for a void one, so any may arrive
no_void : {A : Type 0} (t : Ty) → converts t TyVoid ≡ true → A
no_void TyVoid e = by_false_true e
no_void (TyInt k) e = by_false_true e
no_void TyCondvar e = by_false_true e
no_void (TyPointer t) e = by_false_true e
no_void (TyCode r ps) e = by_false_true e
no_void (TyStruct tag) e = by_false_true e
no_void (TyArray t n) e = by_false_true e

int_delivers : (p : Program) (scope : Scope) (x : Option Expr) → Delivers p scope TyVoid x → Delivers p scope (TyInt Int) x
int_delivers p scope None h = tt
int_delivers p scope (Some e) h = no_void h.0 h.2

module _ (p : Program) (typed : TypedProgram D.Cpc p) where
  int_asking : (R : Ty) (frames : List (Frame Point)) → Asking D.Cpc p false R TyVoid frames → Asking D.Cpc p false R (TyInt Int) frames
  int_asking R [] h = absurd h
  int_asking R (frame ∷ below) h = (h.0, h.1, (h.2.0, h.2.1, (h.2.2.0, h.2.2.1, int_delivers p _ h.2.2.0 h.2.2.2)), h.3)

  -- a thread calls a function with its arguments, or waits for an int
  abbrev ThreadOk : Thread Point → Type 0
  ThreadOk (Pending x vs) = (g : Function) × (function_named p x ≡ Some g) × Given (variables g) vs
  ThreadOk (Suspended k) = (R : Ty) × Waiting D.Cpc p false R (TyInt Int) k.frames

  abbrev Good : State Point (Thread Point) → Type 0
  Good = StateOk D.Cpc p typed ThreadOk

  abbrev Rest : State Point (Thread Point) → Type 0
  Rest s = RestOk D.Cpc p typed ThreadOk s.agenda s.jobs

  abbrev Lists : State Point (Thread Point) → Agenda (Thread Point) → Type 0
  Lists s = AgendaOk ThreadOk (HasJob D.Cpc p typed s.jobs)

  starts_come : (item : Thread Point) (v : Value) (s : State Point (Thread Point)) → ThreadOk item → Suits (TyInt Int) v → Rest s → Comes Good (starts_thread (trees p) item v s)
  starts_come (Pending x vs) v s h i rest = runs_come D.Cpc p typed ThreadOk x h.0 vs s h.1 h.2 rest
  starts_come (Suspended k) v s h i rest = ((h.0, resumes D.Cpc p typed false h.0 (TyInt Int) k.frames v h.1 i), rest)

  suspends_come : (s : State Point (Thread Point)) (r : Result (Agenda (Thread Point)) Fault) → OkThen (Lists s) r → Rest s → Comes Good (suspends s r)
  suspends_come s r h rest = ok_comes (Lists s) Good r _ h (λ a k. (tt, with_agenda_ok D.Cpc p typed ThreadOk s.agenda a s.jobs rest k))

  waits : (R : Ty) (k : Stack Point) → Asking D.Cpc p false R (TyInt Int) k.frames → Comes (λ (j : Stack Point). ThreadOk (Suspended j)) (waiting (trees p) k)
  waits R k h = comes_as (λ (j : Stack Point). Waiting D.Cpc p false R (TyInt Int) j.frames) (λ (j : Stack Point). ThreadOk (Suspended j)) (waiting (trees p) k) (waiting_comes D.Cpc p typed false R (TyInt Int) k h) (λ j l. (R, l))

  owns_come : (R : Ty) (prim : Primitive) (vs : List Value) (k : Stack Point) (s : State Point (Thread Point)) → is_shared prim ≡ false → is_for D.Cpc prim ≡ true → PrimitiveGiven p prim vs
      → Asking D.Cpc p false R (gives prim) k.frames → Rest s → Comes Good (thread_primitive (trees p) prim vs k s)
  owns_come R Yield [] k s e f g h rest =
      comes_then (λ (j : Stack Point). ThreadOk (Suspended j)) Good (waiting (trees p) k) _ (waits R k (int_asking R k.frames h)) λ j l.
      suspends_come s (Ok (ready_one (Suspended j) s.agenda)) (ready_one_ok ThreadOk (HasJob D.Cpc p typed s.jobs) (Suspended j) s.agenda l rest.agenda) rest
  owns_come R Yield (v ∷ vs) k s e f g h rest = absurd g
  owns_come R Sleep (v ∷ []) k s e f g h rest =
      whole_is (λ v. Comes Good (thread_primitive (trees p) Sleep (v ∷ []) k s)) v g.0 λ kind z.
      comes_then (λ (j : Stack Point). ThreadOk (Suspended j)) Good (waiting (trees p) k) _ (waits R k h) λ j l.
      suspends_come (marks (Sleeping z) s) (sleep z (Suspended j) s.agenda) (sleep_ok ThreadOk (HasJob D.Cpc p typed s.jobs) z (Suspended j) s.agenda l rest.agenda) rest
  owns_come R Sleep [] k s e f g h rest = absurd g
  owns_come R Sleep (v ∷ w ∷ vs) k s e f g h rest = absurd g.1
  owns_come R IoWait (v ∷ w ∷ []) k s e f g h rest =
      whole_is (λ v. Comes Good (thread_primitive (trees p) IoWait (v ∷ w ∷ []) k s)) v g.0 λ kind z.
      whole_is (λ w. Comes Good (thread_primitive (trees p) IoWait (Whole kind z ∷ w ∷ []) k s)) w g.1.0 λ kind2 y.
      comes_then (λ (j : Stack Point). ThreadOk (Suspended j)) Good (waiting (trees p) k) _ (waits R k h) λ j l.
      suspends_come (marks (Awaiting z (direction_of y)) s) (Ok (io z (direction_of y) (Suspended j) s.agenda)) (io_ok ThreadOk (HasJob D.Cpc p typed s.jobs) z (direction_of y) (Suspended j) s.agenda l rest.agenda) rest
  owns_come R IoWait [] k s e f g h rest = absurd g
  owns_come R IoWait (v ∷ []) k s e f g h rest = absurd g.1
  owns_come R IoWait (v ∷ w ∷ u ∷ vs) k s e f g h rest = absurd g.1.1
  owns_come R Wait (v ∷ []) k s e f g h rest =
      cond_is (λ v. Comes Good (thread_primitive (trees p) Wait (v ∷ []) k s)) v g.0 λ n.
      comes_then (λ (j : Stack Point). ThreadOk (Suspended j)) Good (waiting (trees p) k) _ (waits R k (int_asking R k.frames h)) λ j l.
      suspends_come (marks (WaitingMark n) s) (wait n (Suspended j) s.agenda) (wait_ok ThreadOk (HasJob D.Cpc p typed s.jobs) n (Suspended j) s.agenda l rest.agenda) rest
  owns_come R Wait [] k s e f g h rest = absurd g
  owns_come R Wait (v ∷ w ∷ vs) k s e f g h rest = absurd g.1
  owns_come R Print vs k s e f g h rest = by_false_true (sym e)
  owns_come R Putc vs k s e f g h rest = by_false_true (sym e)
  owns_come R Puts vs k s e f g h rest = by_false_true (sym e)
  owns_come R Now vs k s e f g h rest = by_false_true (sym e)
  owns_come R CondNew vs k s e f g h rest = by_false_true (sym e)
  owns_come R CondFree vs k s e f g h rest = by_false_true (sym e)
  owns_come R Signal vs k s e f g h rest = by_false_true (sym e)
  owns_come R SignalAll vs k s e f g h rest = by_false_true (sym e)
  owns_come R Exit vs k s e f g h rest = by_false_true (sym e)
  owns_come R Malloc vs k s e f g h rest = by_false_true (sym e)
  owns_come R Free vs k s e f g h rest = by_false_true (sym e)
  owns_come R _ vs k s e f g h rest = by_false_true f

  detaches_come : (R : Ty) (x : Text) (vs : List Value) (k : Stack Point) (s : State Point (Thread Point)) → SectionGiven p x vs → Asking D.Cpc p false R (TyInt Int) k.frames → Rest s → Comes Good (detaches_thread (trees p) x vs k s)
  detaches_come R x vs k s g h rest =
      comes_then (λ (j : Stack Point). ThreadOk (Suspended j)) Good (waiting (trees p) k) _ (waits R k h) λ j l.
      comes_then (λ (t : State Point (Thread Point)). (t.running ≡ s.running) × (t.store ≡ s.store) × RestOk D.Cpc p typed ThreadOk t.agenda t.jobs) Good (submits (trees p) x vs (Suspended j) s) _
      (submits_come D.Cpc p typed ThreadOk x vs (Suspended j) s g l rest) (λ t i. (tt, i.2))

  own_ok : OwnOk D.Cpc p typed ThreadOk (threads p)
  own_ok = record {
    starts = starts_come;
    owns = owns_come;
    spawns = λ R x vs k s g e is_g w h rest.
        reply_comes D.Cpc p typed ThreadOk R TyVoid k Unset (with_agenda s (ready_one (Pending x vs) s.agenda))
        (with_agenda_ok D.Cpc p typed ThreadOk s.agenda (ready_one (Pending x vs) s.agenda) s.jobs rest (ready_one_ok ThreadOk (HasJob D.Cpc p typed s.jobs) (Pending x vs) s.agenda (g, is_g, given g vs w) rest.agenda)) h tt;
    detaches = λ R x vs k s e g h rest. detaches_come R x vs k s g h rest;
  }

pub threads_never_stuck : TypedThreadsNeverStuck
threads_never_stuck p typed = record {
  on = λ h.
      runs_on_and_on D.Cpc p typed (ThreadOk p typed) (starts_thread (trees p)) (thread_primitive (trees p)) (spawns_thread (trees p)) (detaches_thread (trees p)) (shown_in p) (own_ok p typed)
      (Pending main_name []) (typed.main, typed.is_main, given_none (variables typed.main)) h;
}
