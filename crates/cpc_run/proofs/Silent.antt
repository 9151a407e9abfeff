-- A step that asks no host gives no answers of hosts, and leaves those of its history.
use Rattle.std.proofs.Common.{◌≡◌, ℤ, pos, Bool, true, false, List, [], ◌∷◌, ◌++◌, Option, Some, None, Result, Ok, refl, sym, ap, subst, ◌∙◌, append_assoc}
use Rattle.std.proofs.lemmas.List.{append-nil}
use Rattle.std.specs.Fmt.{signed_decimal}
use Rattle.cpc_base.specs.Bytes.{Text}
use Rattle.cpc_num.specs.declared.kinds.Fault.{Fault}
use Rattle.cpc_num.specs.declared.kinds.Kind.TheVariants.{Int, Long}
use Rattle.cpc_tree.specs.Lists.{first_or, is_empty}
use Rattle.cpc_tree.specs.Points.{Point}
use Rattle.cpc_tree.specs.Primitives.{Primitive, Print, Putc, Puts, Now, CondNew, CondFree, Signal, SignalAll, Exit, Malloc, Free, RtFrame, RtBox, RtFrameFree, RtUnbox, RtReady, RtWait, RtSleep, RtIo, RtDetach}
use Rattle.cpc_tree.specs.Syntax.{TyInt, Program}
use Rattle.cpc_tree.specs.Trace.{Mark, Output, Sleeping, Waiting, Awaiting, Submitted, Polled, Exited, Told}
use Rattle.cpc_tree.specs.Typing.{function_named}
use Rattle.cpc_store.specs.declared.values.Class.TheVariants.{Auto, Heap, Frame as FrameClass}
use Rattle.cpc_store.specs.Store.{Value, Unset, Whole, Code, Cond, Store}
use Rattle.cpc_meaning.specs.Agenda.{Agenda, Due, completed, cond_free, cond_new, io, needs_poll, not_out, out, ready_one, section, signal, signal_all, sleep, wait}
use Rattle.cpc_meaning.specs.Answer.{Answer, Gives, Faults, NoAnswer, ◌>>=◌, needed, of_result}
use Rattle.cpc_meaning.specs.Copies.{AllGave, Collected, NotClear, OneFailed, copy_of}
use Rattle.cpc_meaning.specs.Eval.{assigned}
use Rattle.cpc_meaning.specs.Events.{Callback, CallMain, CallWith, callbacks, callbacks_of, event_primitive, starts_callback}
use Rattle.cpc_meaning.specs.Machine.{State, acts, after_done, asked_by, code_step, cond_of, direction_of, ends, int_of, marks, next_poll, next_round, polled, primitive, prints, replies, reply, runs, runs_on, schedules, settled, step_running, submits, takes_poll, told_state, try_step, turns_where, with_agenda, with_store}
use Rattle.cpc_meaning.specs.Plain.{Asks, Done, Form, Returned, Stack, Went, answered, make_frame, plain}
use Rattle.cpc_meaning.specs.Requests.{Asked, Builtin, Host, Section, ToSpawn}
use Rattle.cpc_meaning.specs.Section.{allocated, freed}
use Rattle.cpc_meaning.specs.Start.{main_name}
use Rattle.cpc_meaning.specs.Trees.{trees}
use Rattle.cpc_meaning_laws.proofs.Pointer.Blocks.{Only, any_then, only_then}
use Rattle.cpc_run.specs.declared.made.Made.{Made}
use Rattle.cpc_run.specs.declared.made.Made.TheVariants as M
use Rattle.cpc_run.specs.Answers.{Allows, Answered, MadeAnswered}
use Rattle.cpc_run.specs.Hosts.{HostsMeet, IsAllowed, answer_of, answers_of}
use Rattle.cpc_run.specs.States.{States}

-- ---- marks

-- the answers of one more mark
pub answers_more : (ms : List Mark) (m : Mark) → answers_of (ms ++ m ∷ []) ≡ answers_of ms ++ answer_of m
answers_more [] m = append-nil (answer_of m)
answers_more (n ∷ ms) m = ap (λ x. answer_of n ++ x) (answers_more ms m) ∙ sym (append_assoc (answer_of n) (answers_of ms) (answer_of m))

-- one more mark, whose answer may be given
pub meets_more : (allows : Allows) (ms : List Mark) (m : Mark) → HostsMeet allows ms → IsAllowed allows m → HostsMeet allows (ms ++ m ∷ [])
meets_more allows [] m h i = (i, tt)
meets_more allows (n ∷ ms) m h i = (h.0, meets_more allows ms m h.1 i)

-- ---- states

-- no host is asked
abbrev pub NotHost : Asked → Type 0
NotHost (Host x) = ⊥
NotHost a = Unit {0}

abbrev pub AsksNone : {P : Type 0} → Done P → Type 0
AsksNone (Asks r) = NotHost r.asked
AsksNone d = Unit {0}

-- the answers that are told and those that are left, where each that is told may be given if F
pub record Good (allows : Allows) (F : Type 0) (told left : List ℤ) {P : Type 0} (t : State P Callback) : Type 0 where
  pub told_so : answers_of t.trace ≡ told
  pub left_so : t.history.answers ≡ left
  pub meets : F → HostsMeet allows t.trace

module _ (allows : Allows) (F : Type 0) (told left : List ℤ) {P : Type 0} where
  abbrev Fine : State P Callback → Type 0
  Fine t = Good allows F told left t

  -- another state with the same marks and answers
  like : (s t : State P Callback) → t.trace ≡ s.trace → t.history.answers ≡ s.history.answers → Fine s → Fine t
  like s t e f h = record { told_so = ap answers_of e ∙ h.told_so; left_so = f ∙ h.left_so; meets = λ i. subst (HostsMeet allows) (sym e) (h.meets i) }

  -- a mark that is no host's
  marks_fine : (m : Mark) (s : State P Callback) → answer_of m ≡ [] → IsAllowed allows m → Fine s → Fine (marks m s)
  marks_fine m s e i h = record {
    told_so = answers_more s.trace m ∙ ap (λ x. answers_of s.trace ++ x) e ∙ append-nil (answers_of s.trace) ∙ h.told_so;
    left_so = h.left_so;
    meets = λ j. meets_more allows s.trace m (h.meets j) i;
  }

  module _ (p : Form P) where
    runs_fine : (f : Text) (vs : List Value) (s : State P Callback) → Fine s → Only Fine (runs p f vs s)
    runs_fine f vs s h = any_then Fine (needed (function_named p.program f)) _ λ g. any_then Fine (make_frame p g vs s.store) _ λ made. like s _ refl refl h

    done_fine : (s : State P Callback) (d : Done P) → Fine s → Only Fine (after_done s d)
    done_fine s (Went t k) h = like s _ refl refl h
    done_fine s (Returned v t) h = tt
    done_fine s (Asks r) h = tt

    pub reply_fine : (k : Stack P) (v : Value) (s : State P Callback) → Fine s → Only Fine (reply p k v s)
    reply_fine k v s h = any_then Fine (answered p s.store k v) (after_done s) λ d. done_fine s d h

    replies_fine : (k : Stack P) (act : Answer (Store × Value)) (s : State P Callback) → Fine s → Only Fine (replies p k act s)
    replies_fine k act s h = any_then Fine act _ λ r. reply_fine k r.1 (with_store s r.0) (like s _ refl refl h)

    acts_fine : (k : Stack P) (r : Result (Agenda Callback) Fault) (s : State P Callback) → Fine s → Only Fine (acts p k r s)
    acts_fine k r s h = any_then Fine (of_result r) _ λ a. reply_fine k Unset (with_agenda s a) (like s _ refl refl h)

    prints_fine : (k : Stack P) (bytes : Text) (s : State P Callback) → Fine s → Only Fine (prints p k bytes s)
    prints_fine k bytes s h = reply_fine k Unset (marks (Output bytes) s) (marks_fine (Output bytes) s refl tt h)

    submits_fine : (f : Text) (vs : List Value) (item : Callback) (s : State P Callback) → Fine s → Only Fine (submits p f vs item s)
    submits_fine f vs item s h =
        any_then Fine (of_result (section item s.agenda)) _ λ a.
        any_then Fine (needed (function_named p.program f)) _ λ g.
        any_then Fine (copy_of p.program g (first_or Unset vs) s.store) _ λ cells.
        marks_fine (Submitted s.agenda.sections_made f) _ refl tt (like s _ refl refl h)

    starts_fine : (item : Callback) (v : Value) (s : State P Callback) → Fine s → Only Fine (starts_callback p item v s)
    starts_fine CallMain v s h = runs_fine main_name [] s h
    starts_fine (CallWith f pointer) v s h = any_then Fine (assigned (TyInt Int) v) _ λ w. runs_fine f (pointer ∷ w ∷ []) s h

    own_fine : (prim : Primitive) (vs : List Value) (k : Stack P) (s : State P Callback) → Fine s → Only Fine (event_primitive p prim vs k s)
    own_fine RtFrame (v ∷ []) k s h = replies_fine k (allocated FrameClass v s.store) s h
    own_fine RtBox (v ∷ []) k s h = replies_fine k (allocated Auto v s.store) s h
    own_fine RtFrameFree (v ∷ []) k s h = replies_fine k (freed FrameClass v s.store) s h
    own_fine RtUnbox (v ∷ []) k s h = replies_fine k (freed Auto v s.store) s h
    own_fine RtReady (Code f ∷ x ∷ []) k s h = acts_fine k (Ok (ready_one (CallWith f x) s.agenda)) s h
    own_fine RtWait (v ∷ Code f ∷ x ∷ []) k s h = any_then Fine (cond_of v) _ λ n. acts_fine k (wait n (CallWith f x) s.agenda) (marks (Waiting n) s) (marks_fine (Waiting n) s refl tt h)
    own_fine RtSleep (v ∷ Code f ∷ x ∷ []) k s h = any_then Fine (int_of v) _ λ z. acts_fine k (sleep z (CallWith f x) s.agenda) (marks (Sleeping z) s) (marks_fine (Sleeping z) s refl tt h)
    own_fine RtIo (v ∷ w ∷ Code f ∷ x ∷ []) k s h =
        any_then Fine (int_of v) _ λ fd.
        any_then Fine (int_of w) _ λ way.
        acts_fine k (Ok (io fd (direction_of way) (CallWith f x) s.agenda)) (marks (Awaiting fd (direction_of way)) s) (marks_fine (Awaiting fd (direction_of way)) s refl tt h)
    own_fine RtDetach (Code f ∷ x ∷ Code g ∷ vs) k s h = detached (submits p g vs (CallWith f x) s) (submits_fine g vs (CallWith f x) s h)
      where
        detached : (a : Answer (State P Callback)) → Only Fine a → Only Fine (a >>= λ t. reply p k Unset t)
        detached (Gives t) i = reply_fine k Unset t i
        detached (Faults fault) i = tt
        detached NoAnswer i = tt
    own_fine _ vs k s h = tt

    pub primitive_fine : (prim : Primitive) (vs : List Value) (k : Stack P) (s : State P Callback) → Fine s → Only Fine (primitive (callbacks_of p) prim vs k s)
    primitive_fine Print (v ∷ []) k s h = any_then Fine (int_of v) _ λ z. prints_fine k (signed_decimal z ++ 10 ∷ []) s h
    primitive_fine Putc (v ∷ []) k s h = prints_fine k _ s h
    primitive_fine Puts vs k s h = prints_fine k _ s h
    primitive_fine Now [] k s h = reply_fine k (Whole Long (pos s.agenda.now)) s h
    primitive_fine CondNew [] k s h = reply_fine k (Cond s.agenda.conditions_made) (with_agenda s (cond_new s.agenda)) (like s _ refl refl h)
    primitive_fine CondFree (v ∷ []) k s h = any_then Fine (cond_of v) _ λ n. acts_fine k (cond_free n s.agenda) s h
    primitive_fine Signal (v ∷ []) k s h = any_then Fine (cond_of v) _ λ n. acts_fine k (signal n s.agenda) s h
    primitive_fine SignalAll (v ∷ []) k s h = any_then Fine (cond_of v) _ λ n. acts_fine k (signal_all n s.agenda) s h
    primitive_fine Exit (v ∷ []) k s h = any_then Fine (int_of v) _ λ z. like s (ends (Exited z) s) refl refl h
    primitive_fine Malloc (v ∷ []) k s h = replies_fine k (allocated Heap v s.store) s h
    primitive_fine Free (v ∷ []) k s h = replies_fine k (freed Heap v s.store) s h
    primitive_fine prim vs k s h = own_fine prim vs k s h

    -- ---- code

    asked_fine : (a : Asked) (vs : List Value) (k : Stack P) (s : State P Callback) → NotHost a → Fine s → Only Fine (asked_by (callbacks_of p) k s a vs)
    asked_fine (Builtin prim) vs k s i h = primitive_fine prim vs k s h
    asked_fine (Host x) vs k s i h = absurd i
    asked_fine (ToSpawn f) vs k s i h = tt
    asked_fine (Section f) vs k s i h = tt

    runs_on_fine : (s : State P Callback) (k : Stack P) (d : Done P) → AsksNone d → Fine s → Only Fine (runs_on (callbacks_of p) s k d)
    runs_on_fine s k (Went t j) i h = like s _ refl refl h
    runs_on_fine s k (Returned v t) i h = like s _ refl refl h
    runs_on_fine s k (Asks r) i h = asked_fine r.asked r.arguments k s i h

    pub code_fine : (s : State P Callback) (k : Stack P) → Only AsksNone (plain p s.store k) → Fine s → Only Fine (code_step (callbacks_of p) s k)
    code_fine s k i h = only_then AsksNone Fine (plain p s.store k) _ i λ d j. runs_on_fine s k d j h

    -- ---- the loop

    polled_fine : (told : Told) (s : State P Callback) (c : Collected) → Fine s → Only Fine (polled (callbacks_of p) told s c)
    polled_fine told s (AllGave vs u) h = like s _ refl refl h
    polled_fine told s (OneFailed fault f) h = like s _ refl refl h
    polled_fine told s NotClear h = tt

    taken_fine : (s : State P Callback) (told : Told) (polls : List Told) (o : Option _) → Fine s → Only Fine (takes_poll (callbacks_of p) s told polls o)
    taken_fine s told polls (Some n) h = like s _ refl refl h
    taken_fine s told polls None h = polled_fine told (told_state told polls s) _ (marks_fine (Polled told) _ refl tt (like s _ refl refl h))

    poll_fine : (s : State P Callback) (polls : List Told) → Fine s → Only Fine (next_poll (callbacks_of p) s polls)
    poll_fine s [] h = like s _ refl refl h
    poll_fine s (told ∷ polls) h = taken_fine s told polls (not_out (completed told.events) (out s.agenda)) h

    round_fine : (s : State P Callback) (none_ready : Bool) → Fine s → Fine (next_round s none_ready)
    round_fine s true h = like s _ refl refl h
    round_fine s false h = like s _ refl refl h

    turns_fine : (s : State P Callback) (b : Bool) → Fine s → Only Fine (turns_where (callbacks_of p) s b)
    turns_fine s true h = poll_fine s s.history.polls h
    turns_fine s false h = round_fine s (is_empty s.agenda.ready) h

    pub schedules_fine : (s : State P Callback) (round : List (Due Callback)) → Fine s → Only Fine (schedules (callbacks_of p) s round)
    schedules_fine s [] h = turns_fine s (needs_poll s.agenda) h
    schedules_fine s (d ∷ ds) h = starts_fine d.item d.result (with_agenda s (record s.agenda { round = ds })) (like s _ refl refl h)

    -- nothing, or a state of which it holds
    abbrev pub Next : Option (State P Callback) → Type 0
    Next None = Unit {0}
    Next (Some t) = Fine t

    pub settled_fine : (s : State P Callback) (a : Answer (State P Callback)) → Only Fine a → Fine s → Next (settled (callbacks_of p) s a)
    settled_fine s (Gives t) i h = i
    settled_fine s (Faults fault) i h = like s _ refl refl h
    settled_fine s NoAnswer i h = tt

-- ---- steps

module _ (allows : Allows) (q : Program) (s : States) where
  abbrev F : Type 0
  F = HostsMeet allows s.trace

  abbrev told : List ℤ
  told = answers_of s.trace

  abbrev left : List ℤ
  left = s.history.answers

  itself : Good allows F told left s
  itself = record { told_so = refl; left_so = refl; meets = λ i. i }

  answered_so : (o : Option States) → Next allows F told left (trees q) o → Answered allows [] left s o
  answered_so None h = tt
  answered_so (Some t) h = record { said_so = h.told_so ∙ sym (append-nil told); left = h.left_so; meets = h.meets }

  -- an act that no host is asked in
  pub settled_silent : (a : Answer States) → Only (Good allows F told left) a → Answered allows [] left s (settled (callbacks q) s a)
  settled_silent a i = answered_so (settled (callbacks q) s a) (settled_fine allows F told left (trees q) s a i itself)

  -- a primitive
  pub primitive_silent : (prim : Primitive) (vs : List Value) (k : Stack Point) → Answered allows [] left s (settled (callbacks q) s (primitive (callbacks q) prim vs k s))
  primitive_silent prim vs k = settled_silent (primitive (callbacks q) prim vs k s) (primitive_fine allows F told left (trees q) prim vs k s itself)

  -- a step of the code that asks no host
  pub code_silent : (k : Stack Point) → Only AsksNone (plain (trees q) s.store k) → Answered allows [] left s (settled (callbacks q) s (code_step (callbacks q) s k))
  code_silent k i = settled_silent (code_step (callbacks q) s k) (code_fine allows F told left (trees q) s k i itself)

  -- a step where nothing runs
  pub idle_silent : s.running ≡ None → Answered allows [] left s (try_step (callbacks q) s)
  idle_silent e =
      settled_silent (step_running (callbacks q) s s.running)
      (subst (λ o. Only (Good allows F told left) (step_running (callbacks q) s o)) (sym e) (schedules_fine allows F told left (trees q) s s.agenda.round itself))

  -- the same of what was made of it
  pub made_silent : (rest : List ℤ) (m : Made) → s.history.answers ≡ rest → s.running ≡ None → MadeAnswered allows [] rest m s (try_step (callbacks q) s)
  made_silent rest (M.On cells) e idle = subst (λ ys. Answered allows [] ys s (try_step (callbacks q) s)) e (idle_silent idle)
  made_silent rest (M.Over outcome) e idle = subst (λ ys. Answered allows [] ys s (try_step (callbacks q) s)) e (idle_silent idle)
  made_silent rest (M.Broke fault f) e idle = subst (λ ys. Answered allows [] ys s (try_step (callbacks q) s)) e (idle_silent idle)
  made_silent rest (M.Full cells) e idle = refl
