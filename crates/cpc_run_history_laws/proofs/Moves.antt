-- A step of the event machine that takes no poll does the same whatever polls are left.
use Rattle.std.proofs.Common.{◌≡◌, pos, Bool, true, false, List, [], ◌∷◌, ◌++◌, Result, Ok, refl, sym, ap, ◌∙◌, append_assoc}
use Rattle.std.proofs.lemmas.List.{append-nil}
use Rattle.std.specs.Fmt.{signed_decimal}
use Rattle.cpc_base.specs.Bytes.{Text}
use Rattle.cpc_num.specs.declared.kinds.Fault.{Fault}
use Rattle.cpc_num.specs.declared.kinds.Kind.TheVariants.{Int, Long}
use Rattle.cpc_tree.specs.Lists.{first_or, rest_of}
use Rattle.cpc_tree.specs.Primitives.{Primitive, Print, Putc, Puts, Now, CondNew, CondFree, Signal, SignalAll, Exit, Malloc, Free, RtFrame, RtBox, RtFrameFree, RtUnbox, RtReady, RtWait, RtSleep, RtIo, RtDetach}
use Rattle.cpc_tree.specs.Syntax.{TyInt}
use Rattle.cpc_tree.specs.Trace.{Mark, Output, HostCall, Sleeping, Waiting, Awaiting, Submitted, Exited, Told}
use Rattle.cpc_tree.specs.Typing.{function_named}
use Rattle.cpc_store.specs.declared.values.Class.TheVariants.{Auto, Heap, Frame as FrameClass}
use Rattle.cpc_store.specs.Store.{Value, Unset, Whole, Code, Cond, Store}
use Rattle.cpc_meaning.specs.Agenda.{Agenda, cond_free, cond_new, io, ready_one, section, signal, signal_all, sleep, wait}
use Rattle.cpc_meaning.specs.Answer.{Answer, Gives, Faults, NoAnswer, ◌>>=◌, needed, of_result}
use Rattle.cpc_meaning.specs.Copies.{AllGave, Collected, NotClear, OneFailed, copy_of}
use Rattle.cpc_meaning.specs.Eval.{assigned}
use Rattle.cpc_meaning.specs.Events.{Callback, CallMain, CallWith, callbacks_of, event_primitive, starts_callback}
use Rattle.cpc_meaning.specs.Machine.{State, acts, after_done, asked_by, code_step, cond_of, direction_of, ends, first_answer, host_call, int_of, ints_of, marks, next_round, polled, primitive, prints, replies, reply, runs, runs_on, submits, with_agenda, with_store}
use Rattle.cpc_meaning.specs.Plain.{Asks, Done, Form, Returned, Stack, Went, answered, make_frame, plain}
use Rattle.cpc_meaning.specs.Requests.{Asked, Builtin, Host, Section, ToSpawn}
use Rattle.cpc_meaning.specs.Section.{allocated, freed}
use Rattle.cpc_meaning.specs.Start.{main_name}
use Rattle.cpc_run_history_laws.specs.Laws.{poll_of, polls_of, with_left}

-- the polls of one more mark
pub polls_more : (ms : List Mark) (m : Mark) → polls_of (ms ++ m ∷ []) ≡ polls_of ms ++ poll_of m
polls_more [] m = append-nil (poll_of m)
polls_more (n ∷ ms) m = ap (λ x. poll_of n ++ x) (polls_more ms m) ∙ sym (append_assoc (poll_of n) (polls_of ms) (poll_of m))

-- these polls are shown, and these are left
pub record Shows (shown left : List Told) {P : Type 0} (t : State P Callback) : Type 0 where
  pub shown_so : polls_of t.trace ≡ shown
  pub left_so : t.history.polls ≡ left

-- the same answer, but for the polls that are left: those in the first state, these in the second
pub data Moves (ps shown left : List Told) {P : Type 0} : Answer (State P Callback) → Answer (State P Callback) → Type 0 where
  BothGive : (t : State P Callback) → Shows shown left t → Moves ps shown left (Gives t) (Gives (with_left ps t))
  BothFault : (fault : Fault) → Moves ps shown left (Faults fault) (Faults fault)
  BothStick : Moves ps shown left NoAnswer NoAnswer

module _ (ps shown left : List Told) {P : Type 0} where
  abbrev Has : State P Callback → Type 0
  Has t = Shows shown left t

  -- what is asked of the state alone comes first
  moves_then : {A : Type 0} (a : Answer A) (h k : A → Answer (State P Callback)) → ((x : A) → Moves ps shown left (h x) (k x)) → Moves ps shown left (a >>= h) (a >>= k)
  moves_then (Gives x) h k e = e x
  moves_then (Faults fault) h k e = BothFault fault
  moves_then NoAnswer h k e = BothStick

  -- another state with the same marks and polls
  like : (s t : State P Callback) → t.trace ≡ s.trace → t.history.polls ≡ s.history.polls → Has s → Has t
  like s t e f h = record { shown_so = ap polls_of e ∙ h.shown_so; left_so = f ∙ h.left_so }

  -- a mark that is no poll's
  marked : (m : Mark) (s : State P Callback) → poll_of m ≡ [] → Has s → Has (marks m s)
  marked m s e h = record {
    shown_so = polls_more s.trace m ∙ ap (λ x. polls_of s.trace ++ x) e ∙ append-nil (polls_of s.trace) ∙ h.shown_so;
    left_so = h.left_so;
  }

  module _ (p : Form P) where
    runs_moves : (f : Text) (vs : List Value) (s : State P Callback) → Has s → Moves ps shown left (runs p f vs s) (runs p f vs (with_left ps s))
    runs_moves f vs s h = moves_then (needed (function_named p.program f)) _ _ λ g. moves_then (make_frame p g vs s.store) _ _ λ made. BothGive _ (like s _ refl refl h)

    done_moves : (s : State P Callback) (d : Done P) → Has s → Moves ps shown left (after_done s d) (after_done (with_left ps s) d)
    done_moves s (Went t k) h = BothGive _ (like s _ refl refl h)
    done_moves s (Returned v t) h = BothStick
    done_moves s (Asks r) h = BothStick

    reply_moves : (k : Stack P) (v : Value) (s : State P Callback) → Has s → Moves ps shown left (reply p k v s) (reply p k v (with_left ps s))
    reply_moves k v s h = moves_then (answered p s.store k v) (after_done s) (after_done (with_left ps s)) λ d. done_moves s d h

    replies_moves : (k : Stack P) (act : Answer (Store × Value)) (s : State P Callback) → Has s → Moves ps shown left (replies p k act s) (replies p k act (with_left ps s))
    replies_moves k act s h = moves_then act _ _ λ r. reply_moves k r.1 (with_store s r.0) (like s _ refl refl h)

    acts_moves : (k : Stack P) (r : Result (Agenda Callback) Fault) (s : State P Callback) → Has s → Moves ps shown left (acts p k r s) (acts p k r (with_left ps s))
    acts_moves k r s h = moves_then (of_result r) _ _ λ a. reply_moves k Unset (with_agenda s a) (like s _ refl refl h)

    prints_moves : (k : Stack P) (bytes : Text) (s : State P Callback) → Has s → Moves ps shown left (prints p k bytes s) (prints p k bytes (with_left ps s))
    prints_moves k bytes s h = reply_moves k Unset (marks (Output bytes) s) (marked (Output bytes) s refl h)

    submits_moves : (f : Text) (vs : List Value) (item : Callback) (s : State P Callback) → Has s → Moves ps shown left (submits p f vs item s) (submits p f vs item (with_left ps s))
    submits_moves f vs item s h =
        moves_then (of_result (section item s.agenda)) _ _ λ a.
        moves_then (needed (function_named p.program f)) _ _ λ g.
        moves_then (copy_of p.program g (first_or Unset vs) s.store) _ _ λ cells.
        BothGive _ (like (marks (Submitted s.agenda.sections_made f) s) _ refl refl (marked (Submitted s.agenda.sections_made f) s refl h))

    pub starts_moves : (item : Callback) (v : Value) (s : State P Callback) → Has s → Moves ps shown left (starts_callback p item v s) (starts_callback p item v (with_left ps s))
    starts_moves CallMain v s h = runs_moves main_name [] s h
    starts_moves (CallWith f pointer) v s h = moves_then (assigned (TyInt Int) v) _ _ λ w. runs_moves f (pointer ∷ w ∷ []) s h

    -- a section is submitted, and the code goes on
    detached : (k : Stack P) (a b : Answer (State P Callback)) → Moves ps shown left a b → Moves ps shown left (a >>= λ t. reply p k Unset t) (b >>= λ t. reply p k Unset t)
    detached k _ _ (BothGive t h) = reply_moves k Unset t h
    detached k _ _ (BothFault fault) = BothFault fault
    detached k _ _ BothStick = BothStick

    own_moves : (prim : Primitive) (vs : List Value) (k : Stack P) (s : State P Callback) → Has s → Moves ps shown left (event_primitive p prim vs k s) (event_primitive p prim vs k (with_left ps s))
    own_moves RtFrame (v ∷ []) k s h = replies_moves k (allocated FrameClass v s.store) s h
    own_moves RtBox (v ∷ []) k s h = replies_moves k (allocated Auto v s.store) s h
    own_moves RtFrameFree (v ∷ []) k s h = replies_moves k (freed FrameClass v s.store) s h
    own_moves RtUnbox (v ∷ []) k s h = replies_moves k (freed Auto v s.store) s h
    own_moves RtReady (Code f ∷ x ∷ []) k s h = acts_moves k (Ok (ready_one (CallWith f x) s.agenda)) s h
    own_moves RtWait (v ∷ Code f ∷ x ∷ []) k s h = moves_then (cond_of v) _ _ λ n. acts_moves k (wait n (CallWith f x) s.agenda) (marks (Waiting n) s) (marked (Waiting n) s refl h)
    own_moves RtSleep (v ∷ Code f ∷ x ∷ []) k s h = moves_then (int_of v) _ _ λ z. acts_moves k (sleep z (CallWith f x) s.agenda) (marks (Sleeping z) s) (marked (Sleeping z) s refl h)
    own_moves RtIo (v ∷ w ∷ Code f ∷ x ∷ []) k s h =
        moves_then (int_of v) _ _ λ fd.
        moves_then (int_of w) _ _ λ way.
        acts_moves k (Ok (io fd (direction_of way) (CallWith f x) s.agenda)) (marks (Awaiting fd (direction_of way)) s) (marked (Awaiting fd (direction_of way)) s refl h)
    own_moves RtDetach (Code f ∷ x ∷ Code g ∷ vs) k s h = detached k (submits p g vs (CallWith f x) s) (submits p g vs (CallWith f x) (with_left ps s)) (submits_moves g vs (CallWith f x) s h)
    own_moves _ vs k s h = BothStick

    primitive_moves : (prim : Primitive) (vs : List Value) (k : Stack P) (s : State P Callback) → Has s → Moves ps shown left (primitive (callbacks_of p) prim vs k s) (primitive (callbacks_of p) prim vs k (with_left ps s))
    primitive_moves Print (v ∷ []) k s h = moves_then (int_of v) _ _ λ z. prints_moves k (signed_decimal z ++ 10 ∷ []) s h
    primitive_moves Putc (v ∷ []) k s h = prints_moves k _ s h
    primitive_moves Puts vs k s h = prints_moves k _ s h
    primitive_moves Now [] k s h = reply_moves k (Whole Long (pos s.agenda.now)) s h
    primitive_moves CondNew [] k s h = reply_moves k (Cond s.agenda.conditions_made) (with_agenda s (cond_new s.agenda)) (like s _ refl refl h)
    primitive_moves CondFree (v ∷ []) k s h = moves_then (cond_of v) _ _ λ n. acts_moves k (cond_free n s.agenda) s h
    primitive_moves Signal (v ∷ []) k s h = moves_then (cond_of v) _ _ λ n. acts_moves k (signal n s.agenda) s h
    primitive_moves SignalAll (v ∷ []) k s h = moves_then (cond_of v) _ _ λ n. acts_moves k (signal_all n s.agenda) s h
    primitive_moves Exit (v ∷ []) k s h = moves_then (int_of v) _ _ λ z. BothGive _ (like s (ends (Exited z) s) refl refl h)
    primitive_moves Malloc (v ∷ []) k s h = replies_moves k (allocated Heap v s.store) s h
    primitive_moves Free (v ∷ []) k s h = replies_moves k (freed Heap v s.store) s h
    primitive_moves prim vs k s h = own_moves prim vs k s h

    -- ---- code

    host_moves : (x : Text) (vs : List Value) (k : Stack P) (s : State P Callback) → Has s → Moves ps shown left (host_call p x vs k s) (host_call p x vs k (with_left ps s))
    host_moves x vs k s h = moves_then (ints_of vs) _ _ λ zs.
        let z = first_answer s.history.answers in
        let t : State P Callback = record s { history = record s.history { answers = rest_of s.history.answers } } in
        reply_moves k (Whole Long z) (marks (HostCall x zs z) t) (marked (HostCall x zs z) t refl (like s t refl refl h))

    asked_moves : (a : Asked) (vs : List Value) (k : Stack P) (s : State P Callback) → Has s → Moves ps shown left (asked_by (callbacks_of p) k s a vs) (asked_by (callbacks_of p) k (with_left ps s) a vs)
    asked_moves (Builtin prim) vs k s h = primitive_moves prim vs k s h
    asked_moves (Host x) vs k s h = host_moves x vs k s h
    asked_moves (ToSpawn f) vs k s h = BothStick
    asked_moves (Section f) vs k s h = BothStick

    runs_on_moves : (s : State P Callback) (k : Stack P) (d : Done P) → Has s → Moves ps shown left (runs_on (callbacks_of p) s k d) (runs_on (callbacks_of p) (with_left ps s) k d)
    runs_on_moves s k (Went t j) h = BothGive _ (like s _ refl refl h)
    runs_on_moves s k (Returned v t) h = BothGive _ (like s _ refl refl h)
    runs_on_moves s k (Asks r) h = asked_moves r.asked r.arguments k s h

    pub code_moves : (s : State P Callback) (k : Stack P) → Has s → Moves ps shown left (code_step (callbacks_of p) s k) (code_step (callbacks_of p) (with_left ps s) k)
    code_moves s k h = moves_then (plain p s.store k) _ _ λ d. runs_on_moves s k d h

    -- ---- the loop

    pub polled_moves : (told : Told) (s : State P Callback) (c : Collected) → Has s → Moves ps shown left (polled (callbacks_of p) told s c) (polled (callbacks_of p) told (with_left ps s) c)
    polled_moves told s (AllGave vs u) h = BothGive _ (like s _ refl refl h)
    polled_moves told s (OneFailed fault f) h = BothGive _ (like s _ refl refl h)
    polled_moves told s NotClear h = BothStick

    pub round_moves : (s : State P Callback) (none_ready : Bool) → Has s → Moves ps shown left (Gives (next_round s none_ready)) (Gives (next_round (with_left ps s) none_ready))
    round_moves s true h = BothGive _ (like s _ refl refl h)
    round_moves s false h = BothGive _ (like s _ refl refl h)
