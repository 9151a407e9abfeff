-- The event machine keeps the pointers of a state, where no poll is told.
use Rattle.std.proofs.Common.{◌≡◌, suc, pos, List, [], ◌∷◌, ◌++◌, replicate, Option, Some, Result, Ok, refl, sym, subst}
use Rattle.std.specs.Prelude.{int_lt, unsigned_abs}
use Rattle.std.specs.Fmt.{signed_decimal}
use Rattle.std.specs.List.{All}
use Rattle.std.proofs.lemmas.List.Elements.{All-nil, All-cons, All-head, All-tail}
use Rattle.cpc_base.specs.Bytes.{Text}
use Rattle.cpc_num.specs.declared.kinds.Fault.{Fault}
use Rattle.cpc_num.specs.declared.kinds.Fault.TheVariants as F
use Rattle.cpc_num.specs.declared.kinds.Kind.TheVariants.{Int, Long}
use Rattle.cpc_tree.specs.Syntax.{TyInt}
use Rattle.cpc_tree.specs.Lists.{first_or}
use Rattle.cpc_tree.specs.Typing.{function_named}
use Rattle.cpc_tree.specs.Primitives.{Primitive, Print, Putc, Puts, Now, CondNew, CondFree, Signal, SignalAll, Exit, Malloc, Free, RtFrame, RtBox, RtFrameFree, RtUnbox, RtReady, RtWait, RtSleep, RtIo, RtDetach}
use Rattle.cpc_tree.specs.Trace.{Mark, Output, Sleeping, Waiting, Awaiting, Outcome, Exited}
use Rattle.cpc_store.specs.declared.values.Class.{Class}
use Rattle.cpc_store.specs.declared.values.Class.TheVariants.{Auto, Heap, Frame as FrameClass}
use Rattle.cpc_store.specs.Store.{Value, Unset, Whole, Null, At, Code, Cond, Store, alloc, next_block, free}
use Rattle.cpc_meaning.specs.Answer.{Answer, Gives, Faults, of_result, needed}
use Rattle.cpc_meaning.specs.Eval.{assigned}
use Rattle.cpc_meaning.specs.Plain.{Form, Stack, Done, Went, Returned, Asks, answered, make_frame}
use Rattle.cpc_meaning.specs.Agenda.{Agenda, cond_new, cond_free, signal, signal_all, section, ready_one, wait, sleep, io}
use Rattle.cpc_meaning.specs.Section.{allocated, freed}
use Rattle.cpc_meaning.specs.Copies.{copy_of}
use Rattle.cpc_meaning.specs.Machine.{State, ends, marks, with_agenda, with_store, runs, after_done, reply, int_of, cond_of, prints, replies, acts, primitive, direction_of, submits}
use Rattle.cpc_meaning.specs.Events.{Callback, CallMain, CallWith, starts_callback, event_primitive, callbacks_of}
use Rattle.cpc_meaning.specs.Start.{main_name}
use Rattle.cpc_meaning_laws.specs.Pointer.Made.{IsMade, IsMadeCallback, IsMadeStore, IsMadeCode, IsMadeAgenda, IsMadeState}
use Rattle.cpc_meaning_laws.proofs.Pointer.Blocks.{Only, only_then, any_then, only_if}
use Rattle.cpc_meaning_laws.proofs.Pointer.Values.{assigned_made}
use Rattle.cpc_meaning_laws.proofs.Pointer.Stores.{Later, Onward, cells_unset, next_made, alloc_onward, free_onward}
use Rattle.cpc_meaning_laws.proofs.Pointer.Steps.{FrameMade, DoneMade, frame_come, stack_made, code_later, answered_made}
use Rattle.cpc_meaning_laws.proofs.Pointer.Agendas.{later_agenda, ready_one_made, other_conditions, cond_free_made, wait_made, signal_made, signal_all_made, sleep_made, io_made, section_made}

-- ---- acts on the store

-- a store that came of s, and a value that was made in it
abbrev pub Handed : Store → Store × Value → Type 0
Handed s r = Onward s r.0 × IsMade r.0 r.1

pub allocated_made : (c : Class) (v : Value) (s : Store) → IsMadeStore s → Only (Handed s) (allocated c v s)
allocated_made c (Whole kind n) s made =
    only_if (Handed s) (int_lt n (pos 0)) (Faults F.Length) (Gives (alloc c (replicate (unsigned_abs n) Unset) s, At c (next_block c s) 0)) tt
    (alloc_onward c (replicate (unsigned_abs n) Unset) s made (cells_unset s (unsigned_abs n)), next_made c (replicate (unsigned_abs n) Unset) s)
allocated_made c Unset s made = tt
allocated_made c Null s made = tt
allocated_made c (At d n k) s made = tt
allocated_made c (Code f) s made = tt
allocated_made c (Cond n) s made = tt

pub freed_made : (c : Class) (v : Value) (s : Store) → IsMadeStore s → Only (Handed s) (freed c v s)
freed_made c v s made = only_then (Onward s) (Handed s) (of_result (free c v s)) _ (free_onward c v s made) λ t on. (on, tt)

-- ---- states

module _ {P : Type 0} (p : Form P) where
  -- what holds of all states
  pub record Good (s : State P Callback) : Type 0 where
    pub made : IsMadeState s
    pub polls : s.history.polls ≡ []

  -- another store, and the stack that runs on it
  pub with_code : (s : State P Callback) (t : Store) (o : Option (Stack P)) → Good s → Later s.store t → IsMadeStore t → ((k : Stack P) → o ≡ Some k → IsMadeCode t k) → Good (record s { store = t; running = o })
  with_code s t o h l made code = record { made = record { store = made; running = code; agenda = later_agenda s.store t l s.agenda h.made.agenda }; polls = h.polls }

  pub code_is : (t : Store) (k : Stack P) → IsMadeCode t k → (j : Stack P) → Some k ≡ Some j → IsMadeCode t j
  code_is t k h j e = let same : k ≡ j = cc in subst (IsMadeCode t) same h

  -- another agenda
  pub with_agenda_good : (s : State P Callback) (a : Agenda Callback) → Good s → IsMadeAgenda s.store a → Good (with_agenda s a)
  with_agenda_good s a h k = record { made = record { store = h.made.store; running = h.made.running; agenda = k }; polls = h.polls }

  marks_good : (m : Mark) (s : State P Callback) → Good s → Good (marks m s)
  marks_good m s h = record { made = record { store = h.made.store; running = h.made.running; agenda = h.made.agenda }; polls = h.polls }

  pub ends_good : (outcome : Outcome) (s : State P Callback) → Good s → Good (ends outcome s)
  ends_good outcome s h = record { made = record { store = h.made.store; running = h.made.running; agenda = h.made.agenda }; polls = h.polls }

  -- a function is run
  runs_good : (f : Text) (vs : List Value) (s : State P Callback) → Good s → All (IsMade s.store) vs → Only Good (runs p f vs s)
  runs_good f vs s h i =
      any_then Good (needed (function_named p.program f)) _ λ g.
      only_then (FrameMade {P = P} s.store) Good (make_frame p g vs s.store) _ (frame_come p g vs s.store h.made.store i) λ r k.
      with_code s r.1 (Some _) h k.onward.later k.onward.made (code_is r.1 _ (stack_made p r.0 r.1 k.onward.made k.slots))

  -- ---- answers

  pub reply_good : (k : Stack P) (v : Value) (s : State P Callback) → Good s → IsMadeCode s.store k → IsMade s.store v → Only Good (reply p k v s)
  reply_good k v s h code i = only_then (DoneMade s.store) Good (answered p s.store k v) (after_done s) (answered_made p s.store k v code i) go
    where
      go : (x : Done P) → DoneMade s.store x → Only Good (after_done s x)
      go (Went t j) l = with_code s t (Some j) h l.0 l.1.store (code_is t j l.1)
      go (Returned w t) l = tt
      go (Asks r) l = tt

  replies_good : (k : Stack P) (act : Answer (Store × Value)) (s : State P Callback) → Good s → IsMadeCode s.store k → Only (Handed s.store) act → Only Good (replies p k act s)
  replies_good k act s h code i = only_then (Handed s.store) Good act _ i λ r j.
      reply_good k r.1 (with_store s r.0) (stored r.0 j.0) (code_later s.store r.0 k j.0.later j.0.made code) j.1
    where
      stored : (t : Store) → Onward s.store t → Good (with_store s t)
      stored t on = with_code s t s.running h on.later on.made (λ j e. code_later s.store t j on.later on.made (h.made.running j e))

  acts_good : (k : Stack P) (r : Result (Agenda Callback) Fault) (s : State P Callback) → Good s → IsMadeCode s.store k → Only (IsMadeAgenda s.store) (of_result r) → Only Good (acts p k r s)
  acts_good k r s h code i = only_then (IsMadeAgenda s.store) Good (of_result r) _ i λ a j. reply_good k Unset (with_agenda s a) (with_agenda_good s a h j) code tt

  -- ---- sections

  -- a state with the same store
  pub record SameStore (s t : State P Callback) : Type 0 where
    pub good : Good t
    pub store : t.store ≡ s.store

  submits_good : (f : Text) (vs : List Value) (item : Callback) (s : State P Callback) → Good s → IsMadeCallback s.store item → Only (SameStore s) (submits p f vs item s)
  submits_good f vs item s h i =
      only_then (IsMadeAgenda s.store) (SameStore s) (of_result (section item s.agenda)) _ (section_made s.store item s.agenda i h.made.agenda) λ a j.
      any_then (SameStore s) (needed (function_named p.program f)) _ λ g.
      any_then (SameStore s) (copy_of p.program g (first_or Unset vs) s.store) _ λ cells.
      record { good = record { made = record { store = h.made.store; running = h.made.running; agenda = j }; polls = h.polls }; store = refl }

  -- ---- the event machine's own primitives

  pub starts_good : (item : Callback) (v : Value) (s : State P Callback) → Good s → IsMadeCallback s.store item → IsMade s.store v → Only Good (starts_callback p item v s)
  starts_good CallMain v s h i j = runs_good main_name [] s h (All-nil (IsMade s.store))
  starts_good (CallWith f pointer) v s h i j =
      only_then (IsMade s.store) Good (assigned (TyInt Int) v) _ (assigned_made s.store (TyInt Int) v j) λ w l.
      runs_good f (pointer ∷ w ∷ []) s h (All-cons (IsMade s.store) pointer (w ∷ []) i (All-cons (IsMade s.store) w [] l (All-nil (IsMade s.store))))

  second : (s : Store) (v w : Value) (vs : List Value) → All (IsMade s) (v ∷ w ∷ vs) → IsMade s w
  second s v w vs h = All-head (IsMade s) w vs (All-tail (IsMade s) v (w ∷ vs) h)

  third : (s : Store) (v w x : Value) (vs : List Value) → All (IsMade s) (v ∷ w ∷ x ∷ vs) → IsMade s x
  third s v w x vs h = second s w x vs (All-tail (IsMade s) v (w ∷ x ∷ vs) h)

  fourth : (s : Store) (v w x y : Value) (vs : List Value) → All (IsMade s) (v ∷ w ∷ x ∷ y ∷ vs) → IsMade s y
  fourth s v w x y vs h = third s w x y vs (All-tail (IsMade s) v (w ∷ x ∷ y ∷ vs) h)

  own_good : (prim : Primitive) (vs : List Value) (k : Stack P) (s : State P Callback) → Good s → IsMadeCode s.store k → All (IsMade s.store) vs → Only Good (event_primitive p prim vs k s)
  own_good RtFrame (v ∷ []) k s h code i = replies_good k (allocated FrameClass v s.store) s h code (allocated_made FrameClass v s.store h.made.store)
  own_good RtBox (v ∷ []) k s h code i = replies_good k (allocated Auto v s.store) s h code (allocated_made Auto v s.store h.made.store)
  own_good RtFrameFree (v ∷ []) k s h code i = replies_good k (freed FrameClass v s.store) s h code (freed_made FrameClass v s.store h.made.store)
  own_good RtUnbox (v ∷ []) k s h code i = replies_good k (freed Auto v s.store) s h code (freed_made Auto v s.store h.made.store)
  own_good RtReady (Code f ∷ x ∷ []) k s h code i =
      acts_good k (Ok (ready_one (CallWith f x) s.agenda)) s h code (ready_one_made s.store (CallWith f x) s.agenda (second s.store (Code f) x [] i) h.made.agenda)
  own_good RtWait (v ∷ Code f ∷ x ∷ []) k s h code i =
      any_then Good (cond_of v) _ λ n.
      acts_good k (wait n (CallWith f x) s.agenda) (marks (Waiting n) s) (marks_good (Waiting n) s h) code (wait_made s.store n (CallWith f x) s.agenda (third s.store v (Code f) x [] i) h.made.agenda)
  own_good RtSleep (v ∷ Code f ∷ x ∷ []) k s h code i =
      any_then Good (int_of v) _ λ z.
      acts_good k (sleep z (CallWith f x) s.agenda) (marks (Sleeping z) s) (marks_good (Sleeping z) s h) code (sleep_made s.store z (CallWith f x) s.agenda (third s.store v (Code f) x [] i) h.made.agenda)
  own_good RtIo (v ∷ w ∷ Code f ∷ x ∷ []) k s h code i =
      any_then Good (int_of v) _ λ fd.
      any_then Good (int_of w) _ λ way.
      acts_good k (Ok (io fd (direction_of way) (CallWith f x) s.agenda)) (marks (Awaiting fd (direction_of way)) s) (marks_good (Awaiting fd (direction_of way)) s h) code
      (io_made s.store fd (direction_of way) (CallWith f x) s.agenda (fourth s.store v w (Code f) x [] i) h.made.agenda)
  own_good RtDetach (Code f ∷ x ∷ Code g ∷ vs) k s h code i =
      only_then (SameStore s) Good (submits p g vs (CallWith f x) s) _ (submits_good g vs (CallWith f x) s h (second s.store (Code f) x (Code g ∷ vs) i)) λ t j.
      reply_good k Unset t j.good (subst (λ u. IsMadeCode u k) (sym j.store) code) tt
  own_good _ vs k s h code i = tt

  -- ---- what both machines have

  prints_good : (k : Stack P) (bytes : Text) (s : State P Callback) → Good s → IsMadeCode s.store k → Only Good (prints p k bytes s)
  prints_good k bytes s h code = reply_good k Unset (marks (Output bytes) s) (marks_good (Output bytes) s h) code tt

  pub primitive_good : (prim : Primitive) (vs : List Value) (k : Stack P) (s : State P Callback) → Good s → IsMadeCode s.store k → All (IsMade s.store) vs → Only Good (primitive (callbacks_of p) prim vs k s)
  primitive_good Print (v ∷ []) k s h code i = any_then Good (int_of v) _ λ z. prints_good k (signed_decimal z ++ 10 ∷ []) s h code
  primitive_good Putc (v ∷ []) k s h code i = prints_good k _ s h code
  primitive_good Puts vs k s h code i = prints_good k _ s h code
  primitive_good Now [] k s h code i = reply_good k (Whole Long (pos s.agenda.now)) s h code tt
  primitive_good CondNew [] k s h code i =
      reply_good k (Cond s.agenda.conditions_made) (with_agenda s (cond_new s.agenda))
      (with_agenda_good s (cond_new s.agenda) h (other_conditions s.store (s.agenda.live ++ s.agenda.conditions_made ∷ []) (suc s.agenda.conditions_made) s.agenda h.made.agenda)) code tt
  primitive_good CondFree (v ∷ []) k s h code i = any_then Good (cond_of v) _ λ n. acts_good k (cond_free n s.agenda) s h code (cond_free_made s.store n s.agenda h.made.agenda)
  primitive_good Signal (v ∷ []) k s h code i = any_then Good (cond_of v) _ λ n. acts_good k (signal n s.agenda) s h code (signal_made s.store n s.agenda h.made.agenda)
  primitive_good SignalAll (v ∷ []) k s h code i = any_then Good (cond_of v) _ λ n. acts_good k (signal_all n s.agenda) s h code (signal_all_made s.store n s.agenda h.made.agenda)
  primitive_good Exit (v ∷ []) k s h code i = any_then Good (int_of v) _ λ z. ends_good (Exited z) s h
  primitive_good Malloc (v ∷ []) k s h code i = replies_good k (allocated Heap v s.store) s h code (allocated_made Heap v s.store h.made.store)
  primitive_good Free (v ∷ []) k s h code i = replies_good k (freed Heap v s.store) s h code (freed_made Heap v s.store h.made.store)
  primitive_good prim vs k s h code i = own_good prim vs k s h code i
