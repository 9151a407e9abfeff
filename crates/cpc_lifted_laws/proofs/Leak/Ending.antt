-- A step of the event machine that ends the run where something runs afterwards leaves the trace and the live cells as they were.
use Rattle.std.proofs.Common.{◌≡◌, ◌⊎◌, inl, inr, pos, true, List, [], ◌∷◌, ◌++◌, map, Option, Some, None, Result, Ok, refl, ◌∙◌, ap, subst}
use Rattle.std.specs.Fmt.{signed_decimal}
use Rattle.cpc_base.specs.Bytes.{Text}
use Rattle.cpc_num.specs.declared.kinds.Fault.{Fault}
use Rattle.cpc_num.specs.declared.kinds.Kind.TheVariants.{Long}
use Rattle.cpc_store.specs.declared.values.Class.TheVariants.{Auto, Heap, Frame as FrameClass}
use Rattle.cpc_store.specs.Store.{Value, Unset, Whole, Cond, Code, Store}
use Rattle.cpc_tree.specs.Lists.{first_or, rest_of}
use Rattle.cpc_tree.specs.Trace.{HostCall, Output, Sleeping, Waiting, Awaiting, Going, Failed, is_over}
use Rattle.cpc_tree.specs.Typing.{function_named}
use Rattle.cpc_meaning.specs.Agenda.{Due, Agenda, io, ready_one, wait, sleep, section, cond_new, cond_free, signal, signal_all}
use Rattle.cpc_meaning.specs.Answer.{Answer, Gives, Faults, NoAnswer, of_result, needed}
use Rattle.cpc_meaning.specs.Copies.{copy_of}
use Rattle.cpc_meaning.specs.Machine.{State, marks, with_agenda, with_store, after_done, reply, replies, acts, byte_of, int_of, cond_of, ints_of, first_answer, primitive, host_call, asked_by, submits, runs, runs_on, code_step, schedules, settled, step_running, try_step, ends, direction_of, fault_function}
use Rattle.cpc_meaning.specs.Plain.{Form, Stack, Done, Went, Returned, Asks, plain, answered, make_frame}
use Rattle.cpc_meaning.specs.Requests.{Asked, Builtin, Host, ToSpawn, Section, Primitive, Print, Putc, Puts, Now, CondNew, CondFree, Signal, SignalAll, Exit, Malloc, Free, RtFrame, RtBox, RtFrameFree, RtUnbox, RtReady, RtWait, RtSleep, RtIo, RtDetach}
use Rattle.cpc_meaning.specs.Runs.{live_cells}
use Rattle.cpc_meaning.specs.Start.{main_name, before_underscores}
use Rattle.cpc_meaning.specs.Eval.{assigned}
use Rattle.cpc_meaning.specs.Events.{Callback, CallMain, CallWith, starts_callback, event_primitive, callbacks_of}
use Rattle.cpc_meaning.specs.Section.{allocated, freed}
use Rattle.cpc_meaning_laws.proofs.Pointer.Blocks.{Only, any_then, only_then, only_as}
use Rattle.cpc_tree.specs.Syntax.{TyInt}
use Rattle.cpc_num.specs.declared.kinds.Kind.TheVariants.{Int}
use Rattle.cpc_lifted_laws.proofs.Leak.Ended.{turns_kept}

module _ {P : Type 0} (p : Form P) where
  -- the run goes on
  abbrev Goes : State P Callback → Type 0
  Goes t = t.outcome ≡ Going

  -- where the run is over, nothing runs, or nothing else was changed
  abbrev pub Ends : State P Callback → State P Callback → Type 0
  Ends s t = is_over t.outcome ≡ true → (t.running ≡ None) ⊎ ((t.trace ≡ s.trace) × (live_cells t ≡ live_cells s))

  goes_ends : (s t : State P Callback) → Goes t → Ends s t
  goes_ends s t going over = absurd (let i = ap is_over going in cc)

  still : (s : State P Callback) (a : Answer (State P Callback)) → Only Goes a → Only (Ends s) a
  still s a h = only_as Goes (Ends s) a (goes_ends s) h

  -- ---- what is answered

  reply_goes : (k : Stack P) (v : Value) (s : State P Callback) → Goes s → Only Goes (reply p k v s)
  reply_goes k v s going = any_then Goes (answered p s.store k v) (after_done s) go
    where
      go : (d : Done P) → Only Goes (after_done s d)
      go (Went t j) = going
      go (Returned w t) = tt
      go (Asks r) = tt

  acts_go : (k : Stack P) (r : Result (Agenda Callback) Fault) (s : State P Callback) → Goes s → Only Goes (acts p k r s)
  acts_go k r s going = any_then Goes (of_result r) _ λ a. reply_goes k Unset (with_agenda s a) going

  replies_go : (k : Stack P) (act : Answer (Store × Value)) (s : State P Callback) → Goes s → Only Goes (replies p k act s)
  replies_go k act s going = any_then Goes act _ λ r. reply_goes k r.1 (with_store s r.0) going

  submits_go : (f : Text) (vs : List Value) (item : Callback) (s : State P Callback) → Goes s → Only Goes (submits p f vs item s)
  submits_go f vs item s going = any_then Goes (of_result (section item s.agenda)) _ λ a. any_then Goes (needed (function_named p.program f)) _ λ g. any_then Goes (copy_of p.program g (first_or Unset vs) s.store) _ λ cells. going

  host_goes : (x : Text) (vs : List Value) (k : Stack P) (s : State P Callback) → Goes s → Only Goes (host_call p x vs k s)
  host_goes x vs k s going =
      any_then Goes (ints_of vs) _ λ zs.
      reply_goes k (Whole Long (first_answer s.history.answers)) (marks (HostCall x zs (first_answer s.history.answers)) (record s { history = record s.history { answers = rest_of s.history.answers } })) going

  own_goes : (prim : Primitive) (vs : List Value) (k : Stack P) (s : State P Callback) → Goes s → Only Goes (event_primitive p prim vs k s)
  own_goes RtFrame (v ∷ []) k s going = replies_go k (allocated FrameClass v s.store) s going
  own_goes RtBox (v ∷ []) k s going = replies_go k (allocated Auto v s.store) s going
  own_goes RtFrameFree (v ∷ []) k s going = replies_go k (freed FrameClass v s.store) s going
  own_goes RtUnbox (v ∷ []) k s going = replies_go k (freed Auto v s.store) s going
  own_goes RtReady (Code f ∷ x ∷ []) k s going = acts_go k (Ok (ready_one (CallWith f x) s.agenda)) s going
  own_goes RtWait (v ∷ Code f ∷ x ∷ []) k s going = any_then Goes (cond_of v) _ λ c. acts_go k (wait c (CallWith f x) s.agenda) (marks (Waiting c) s) going
  own_goes RtSleep (v ∷ Code f ∷ x ∷ []) k s going = any_then Goes (int_of v) _ λ z. acts_go k (sleep z (CallWith f x) s.agenda) (marks (Sleeping z) s) going
  own_goes RtIo (v ∷ w ∷ Code f ∷ x ∷ []) k s going =
      any_then Goes (int_of v) _ λ fd.
      any_then Goes (int_of w) _ λ way. acts_go k (Ok (io fd (direction_of way) (CallWith f x) s.agenda)) (marks (Awaiting fd (direction_of way)) s) going
  own_goes RtDetach (Code f ∷ x ∷ Code g ∷ vs) k s going = only_then Goes Goes (submits p g vs (CallWith f x) s) _ (submits_go g vs (CallWith f x) s going) (λ t goes. reply_goes k Unset t goes)
  own_goes _ vs k s going = tt

  -- ---- code that runs

  primitive_ends : (prim : Primitive) (vs : List Value) (k : Stack P) (s : State P Callback) → Goes s → Only (Ends s) (primitive (callbacks_of p) prim vs k s)
  primitive_ends Print (v ∷ []) k s going = any_then (Ends s) (int_of v) _ λ z. still s _ (reply_goes k Unset (marks (Output (signed_decimal z ++ 10 ∷ [])) s) going)
  primitive_ends Putc (v ∷ []) k s going = still s _ (reply_goes k Unset (marks (Output (byte_of v ∷ [])) s) going)
  primitive_ends Puts vs k s going = still s _ (reply_goes k Unset (marks (Output (map byte_of vs)) s) going)
  primitive_ends Now [] k s going = still s _ (reply_goes k (Whole Long (pos s.agenda.now)) s going)
  primitive_ends CondNew [] k s going = still s _ (reply_goes k (Cond s.agenda.conditions_made) (with_agenda s (cond_new s.agenda)) going)
  primitive_ends CondFree (v ∷ []) k s going = any_then (Ends s) (cond_of v) _ λ c. still s _ (acts_go k (cond_free c s.agenda) s going)
  primitive_ends Signal (v ∷ []) k s going = any_then (Ends s) (cond_of v) _ λ c. still s _ (acts_go k (signal c s.agenda) s going)
  primitive_ends SignalAll (v ∷ []) k s going = any_then (Ends s) (cond_of v) _ λ c. still s _ (acts_go k (signal_all c s.agenda) s going)
  primitive_ends Exit (v ∷ []) k s going = any_then (Ends s) (int_of v) _ λ z over. inr (refl, refl)
  primitive_ends Malloc (v ∷ []) k s going = still s _ (replies_go k (allocated Heap v s.store) s going)
  primitive_ends Free (v ∷ []) k s going = still s _ (replies_go k (freed Heap v s.store) s going)
  primitive_ends prim vs k s going = still s (event_primitive p prim vs k s) (own_goes prim vs k s going)

  asked_ends : (asked : Asked) (vs : List Value) (k : Stack P) (s : State P Callback) → Goes s → Only (Ends s) (asked_by (callbacks_of p) k s asked vs)
  asked_ends (Builtin prim) vs k s going = primitive_ends prim vs k s going
  asked_ends (Host x) vs k s going = still s _ (host_goes x vs k s going)
  asked_ends (ToSpawn f) vs k s going = tt
  asked_ends (Section f) vs k s going = tt

  code_ends : (s : State P Callback) (k : Stack P) → Goes s → Only (Ends s) (code_step (callbacks_of p) s k)
  code_ends s k going = any_then (Ends s) (plain p s.store k) _ go
    where
      go : (d : Done P) → Only (Ends s) (runs_on (callbacks_of p) s k d)
      go (Went t j) = goes_ends s (record s { store = t; running = Some j }) going
      go (Returned v t) = λ over. inl refl
      go (Asks r) = asked_ends r.asked r.arguments k s going

  -- ---- nothing runs

  runs_go : (f : Text) (vs : List Value) (s : State P Callback) → Goes s → Only Goes (runs p f vs s)
  runs_go f vs s going = any_then Goes (needed (function_named p.program f)) _ λ g. any_then Goes (make_frame p g vs s.store) _ λ r. going

  starts_go : (item : Callback) (v : Value) (s : State P Callback) → Goes s → Only Goes (starts_callback p item v s)
  starts_go CallMain v s going = runs_go main_name [] s going
  starts_go (CallWith f pointer) v s going = any_then Goes (assigned (TyInt Int) v) _ λ w. runs_go f (pointer ∷ w ∷ []) s going

  schedules_end : (s : State P Callback) → Goes s → s.running ≡ None → (round : List (Due Callback)) → Only (Ends s) (schedules (callbacks_of p) s round)
  schedules_end s going none [] = only_as _ (Ends s) _ (λ t kept over. inl ((kept over).running ∙ none)) (turns_kept (callbacks_of p) s going)
  schedules_end s going none (d ∷ ds) = still s _ (starts_go d.item d.result (with_agenda s (record s.agenda { round = ds })) going)

  -- ---- a step

  settled_ends : (s t : State P Callback) (a : Answer (State P Callback)) → Only (Ends s) a → settled (callbacks_of p) s a ≡ Some t → Ends s t
  settled_ends s t (Gives u) h e = let i : u ≡ t = cc in subst (Ends s) i h
  settled_ends s t (Faults fault) h e = let i : ends (Failed fault (before_underscores (fault_function s.running))) s ≡ t = cc in subst (Ends s) i (λ over. inr (refl, refl))
  settled_ends s t NoAnswer h e = absurd (cc)

  pub step_ends : (s t : State P Callback) → Goes s → try_step (callbacks_of p) s ≡ Some t → Ends s t
  step_ends s t going e = settled_ends s t (step_running (callbacks_of p) s s.running) (go s.running refl) e
    where
      go : (k : Option (Stack P)) → s.running ≡ k → Only (Ends s) (step_running (callbacks_of p) s k)
      go None i = schedules_end s going i s.agenda.round
      go (Some k) i = code_ends s k going
