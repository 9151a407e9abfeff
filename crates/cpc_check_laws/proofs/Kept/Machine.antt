-- What running code asks of the threaded machine keeps what holds of its states.
use Rattle.std.proofs.Common.{◌≡◌, ◌⊎◌, inl, inr, suc, pos, List, [], ◌∷◌, ◌++◌, replicate, Option, Some, None, Result, Ok, refl, sym, subst}
use Rattle.std.specs.Prelude.{int_lt, unsigned_abs}
use Rattle.std.specs.Fmt.{signed_decimal}
use Rattle.std.specs.List.{All}
use Rattle.std.proofs.lemmas.List.Elements.{All-nil, All-cons, All-head, All-tail, All-weaker, All-push, All-replicate}
use Rattle.cpc_base.specs.Bytes.{Text}
use Rattle.cpc_num.specs.declared.kinds.Fault.{Fault}
use Rattle.cpc_num.specs.declared.kinds.Kind.TheVariants.{Long}
use Rattle.cpc_num.specs.declared.kinds.Fault.TheVariants as F
use Rattle.cpc_tree.specs.Syntax.{Function, Program}
use Rattle.cpc_tree.specs.Lists.{first_or, rest_of}
use Rattle.cpc_tree.specs.Registers.{variables}
use Rattle.cpc_tree.specs.Typing.{function_named, parameter_types}
use Rattle.cpc_tree.specs.Primitives.{Primitive, Print, Putc, Puts, Now, CondNew, CondFree, Signal, SignalAll, Exit, Malloc, Free, Yield, Sleep, IoWait, Wait}
use Rattle.cpc_tree.specs.Trace.{Mark, Output, HostCall, Sleeping, Waiting, Awaiting, Outcome, Exited}
use Rattle.cpc_store.specs.declared.values.Class.TheVariants.{Heap}
use Rattle.cpc_store.specs.Store.{Value, Unset, Whole, Null, At, Code, Cond, Store, alloc, next_block, free}
use Rattle.cpc_meaning.specs.Answer.{Answer, Gives, Faults, ◌>>=◌, of_result, needed}
use Rattle.cpc_meaning.specs.Requests.{Asked, Builtin, Host, ToSpawn, Section}
use Rattle.cpc_meaning.specs.Plain.{Form, Frame, Stack, stack_of, Done, Went, Returned, Asks, make_frame, moved_to, answered, waiting_frames, waiting}
use Rattle.cpc_meaning.specs.Agenda.{Agenda, cond_new, cond_free, signal, signal_all, section, ready_one, wait, sleep, io}
use Rattle.cpc_meaning.specs.History.{History}
use Rattle.cpc_meaning.specs.Section.{Job, allocated, freed}
use Rattle.cpc_meaning.specs.Copies.{copy_of}
use Rattle.cpc_meaning.specs.Machine.{State, ends, marks, with_agenda, with_store, runs, after_done, reply, int_of, cond_of, prints, replies, acts, primitive, ints_of, first_answer, host_call, asked_by, direction_of, submits}
use Rattle.cpc_meaning.specs.Threads.{Thread, Pending, Suspended, starts_thread, suspends, thread_primitive, spawns_thread, detaches_thread, threads_of}
use Rattle.cpc_meaning.proofs.Functions.{found_again}
use Rattle.cpc_meaning_laws.specs.Pointer.Made.{IsMade, IsMadeStore, IsMadeFrame, IsMadeCode}
use Rattle.cpc_meaning_laws.proofs.Pointer.Blocks.{Only, only_then, any_then, only_as, only_if}
use Rattle.cpc_meaning_laws.proofs.Pointer.Stores.{Later, later_made, later_values, Onward}
use Rattle.cpc_meaning_laws.proofs.Pointer.Steps.{FrameMade, DoneMade, code_later, frame_come, stack_made, answered_made}
use Rattle.cpc_meaning_laws.proofs.Pointer.Machine.{Handed, allocated_made, freed_made}
use Rattle.cpc_meaning_laws.proofs.Pointer.Acts.{first_made, rest_made}
use Rattle.cpc_check_laws.specs.Kept.Codes.{IsCode, IsCodeStore, IsCodeFrame, IsCodeStack}
use Rattle.cpc_check_laws.specs.Kept.Fits.{FitAll, FitsFrame, FitsPending, IsInt}
use Rattle.cpc_check_laws.specs.Kept.Kept.{IsSteady, KeptStack, KeptThread, KeptAgenda, KeptJob, NoFrames, Kept}
use Rattle.cpc_check_laws.proofs.Kept.Values.{int_made}
use Rattle.cpc_check_laws.proofs.Kept.Stores.{only_both, Stays, heap_allocated, heap_freed}
use Rattle.cpc_check_laws.proofs.Kept.Slots.{Given, given, given_none}
use Rattle.cpc_check_laws.proofs.Kept.Codes.{alloc_code, free_code}
use Rattle.cpc_check_laws.proofs.Kept.CodeActs.{DoneCode, frame_code, answered_code, waiting_code}
use Rattle.cpc_check_laws.proofs.Kept.Acts.{AsksSo}
use Rattle.cpc_check_laws.proofs.Kept.Steps.{IsNamed, AllFit, DoneSo, FrameSo, frame_so, fits_so, answered_so, waiting_so}
use Rattle.cpc_check_laws.proofs.Kept.Agendas as A
use Rattle.cpc_check_laws.proofs.Kept.Sections.{copy_so}

-- an int is no code
int_code : (p : Program) (v : Value) → IsInt v → IsCode p v
int_code p Unset e = tt
int_code p (Whole kind z) e = tt
int_code p Null e = tt
int_code p (At c n k) e = tt
int_code p (Code f) e = absurd (cc)
int_code p (Cond n) e = tt

module _ {P : Type 0} (p : Form P) where
  -- a store and a value
  abbrev HandedCode : Store × Value → Type 0
  HandedCode r = IsCodeStore p.program r.0 × IsCode p.program r.1

  allocated_code : (v : Value) (s : Store) → IsCodeStore p.program s → Only HandedCode (allocated Heap v s)
  allocated_code (Whole kind n) s h = only_if HandedCode (int_lt n (pos 0)) (Faults F.Length) (Gives (alloc Heap (replicate (unsigned_abs n) Unset) s, At Heap (next_block Heap s) 0)) tt
      (alloc_code p.program Heap (replicate (unsigned_abs n) Unset) s h (All-replicate (IsCode p.program) (unsigned_abs n) Unset tt), tt)
  allocated_code Unset s h = tt
  allocated_code Null s h = tt
  allocated_code (At c n k) s h = tt
  allocated_code (Code f) s h = tt
  allocated_code (Cond n) s h = tt

  freed_heap_code : (v : Value) (s : Store) → IsCodeStore p.program s → Only HandedCode (freed Heap v s)
  freed_heap_code v s h = only_then (IsCodeStore p.program) HandedCode (of_result (free Heap v s)) _ (free_code p.program Heap v s h) λ t i. (i, tt)

  -- what holds of all states
  abbrev pub Good : State P (Thread P) → Type 0
  Good s = Kept p.program s

  abbrev pub Fine : Store → Thread P → Type 0
  Fine s x = KeptThread p.program s x

  abbrev pub Lists : Store → Agenda (Thread P) → Type 0
  Lists s a = KeptAgenda (Fine s) IsInt a

  -- ---- later stores

  later_stack : (s t : Store) → Later s t → IsMadeStore t → (k : Stack P) → KeptStack p.program s k → KeptStack p.program t k
  later_stack s t l made k h = record { code = code_later s t k l made h.code; fits = h.fits; codes = h.codes }

  later_item : (s t : Store) → Later s t → IsMadeStore t → (x : Thread P) → Fine s x → Fine t x
  later_item s t l made (Pending f vs) h = (later_values s t l vs h.0, h.1, h.2)
  later_item s t l made (Suspended k) h = later_stack s t l made k h

  later_job : (s t : Store) → Later s t → (j : Job) → KeptJob p.program s j → KeptJob p.program t j
  later_job s t l j h = record { arguments = later_values s t l j.arguments h.arguments; cells = later_values s t l j.cells h.cells; pointer = later_made s t l j.pointer h.pointer; gives = h.gives }

  later_lists : (s t : Store) → Later s t → IsMadeStore t → (a : Agenda (Thread P)) → Lists s a → Lists t a
  later_lists s t l made a h = A.agenda_as (Fine s) (Fine t) IsInt IsInt (later_item s t l made) (λ v i. i) a h

  -- ---- other states

  -- another store, and the stack that runs on it
  pub with_code : (s : State P (Thread P)) (t : Store) (o : Option (Stack P)) → Good s → Later s.store t → IsMadeStore t → NoFrames t → IsCodeStore p.program t → ((k : Stack P) → o ≡ Some k → KeptStack p.program t k) → Good (record s { store = t; running = o })
  with_code s t o h l made none codes code = record {
    no_frames = none;
    store = made;
    codes = codes;
    running = code;
    agenda = later_lists s.store t l made s.agenda h.agenda;
    jobs = All-weaker (KeptJob p.program s.store) (KeptJob p.program t) (later_job s.store t l) s.jobs h.jobs;
  }

  pub stack_is : (t : Store) (k : Stack P) → KeptStack p.program t k → (j : Stack P) → Some k ≡ Some j → KeptStack p.program t j
  stack_is t k h j e = let same : k ≡ j = cc in subst (KeptStack p.program t) same h

  pub no_stack : (t : Store) (j : Stack P) → None ≡ Some j → KeptStack p.program t j
  no_stack t j e = absurd (cc)

  pub with_store_so : (s : State P (Thread P)) (t : Store) → Good s → Onward s.store t → NoFrames t → IsCodeStore p.program t → Good (with_store s t)
  with_store_so s t h on none codes = with_code s t s.running h on.later on.made none codes (λ j e. later_stack s.store t on.later on.made j (h.running j e))

  -- another agenda, and a stack that runs or none
  pub with_lists : (s : State P (Thread P)) (a : Agenda (Thread P)) (o : Option (Stack P)) → Good s → Lists s.store a → ((k : Stack P) → o ≡ Some k → KeptStack p.program s.store k) → Good (record s { agenda = a; running = o })
  with_lists s a o h k code = record { no_frames = h.no_frames; store = h.store; codes = h.codes; running = code; agenda = k; jobs = h.jobs }

  pub with_agenda_so : (s : State P (Thread P)) (a : Agenda (Thread P)) → Good s → Lists s.store a → Good (with_agenda s a)
  with_agenda_so s a h k = with_lists s a s.running h k h.running

  -- another history, trace or outcome
  pub told_so : (s : State P (Thread P)) (history : History) (trace : List Mark) (outcome : Outcome) → Good s → Good (record s { history = history; trace = trace; outcome = outcome })
  told_so s history trace outcome h = record { no_frames = h.no_frames; store = h.store; codes = h.codes; running = h.running; agenda = h.agenda; jobs = h.jobs }

  pub marks_so : (m : Mark) (s : State P (Thread P)) → Good s → Good (marks m s)
  marks_so m s h = told_so s s.history (s.trace ++ m ∷ []) s.outcome h

  pub ends_so : (outcome : Outcome) (s : State P (Thread P)) → Good s → Good (ends outcome s)
  ends_so outcome s h = told_so s s.history s.trace outcome h

  -- ---- calls

  -- a pending call has arguments for the first variables
  pending_given : (g : Function) (vs : List Value) → (vs ≡ []) ⊎ FitAll (parameter_types g) vs → Given (variables g) vs
  pending_given g vs (inl e) = subst (λ vs. Given (variables g) vs) (sym e) (given_none (variables g))
  pending_given g vs (inr h) = given g vs h

  -- a function is run
  pub runs_so : (f : Text) (vs : List Value) (s : State P (Thread P)) → Good s → All (IsMade s.store) vs → All (IsCode p.program) vs → FitsPending p.program f vs → Only Good (runs p f vs s)
  runs_so f vs s h made codes fits = found (function_named p.program f) refl
    where
      Coded : Frame P × Store → Type 0
      Coded r = IsCodeStore p.program r.1 × IsCodeFrame p.program r.0

      found : (o : Option Function) → function_named p.program f ≡ o → Only Good (needed o >>= λ g. make_frame p g vs s.store >>= λ r. Gives (record s { store = r.1; running = Some (stack_of r.0) }))
      found None e = tt
      found (Some g) e =
          only_then (λ (r : Frame P × Store). FrameMade {P = P} s.store r × (FrameSo p g s.store r × Coded r)) Good (make_frame p g vs s.store) _
          (only_both (FrameMade {P = P} s.store) (λ (r : Frame P × Store). FrameSo p g s.store r × Coded r) (make_frame p g vs s.store) (frame_come p g vs s.store h.store made)
          (only_both (FrameSo p g s.store) Coded (make_frame p g vs s.store) (frame_so p g vs s.store (pending_given g vs (fits g e))) (frame_code p g vs s.store h.codes codes))) λ r k.
          with_code s r.1 (Some (stack_of r.0)) h k.0.onward.later k.0.onward.made (k.1.0.stays h.no_frames) k.1.1.0
          (stack_is r.1 (stack_of r.0) (record {
            code = stack_made p r.0 r.1 k.0.onward.made k.0.slots;
            fits = All-cons (FitsFrame p.program) r.0 [] (fits_so p g s.store r (found_again p.program f g e) k.1.0) (All-nil (FitsFrame p.program));
            codes = record { frames = All-cons (IsCodeFrame p.program) r.0 [] k.1.1.1 (All-nil (IsCodeFrame p.program)); arriving = tt };
          }))

  -- a stack that waits
  pub waits_so : (s : Store) (k : Stack P) → KeptStack p.program s k → Only (KeptStack p.program s) (waiting p k)
  waits_so s k h =
      only_as (λ (j : Stack P). IsMadeCode s j × ((AllFit p k.frames → AllFit p j.frames) × IsCodeStack p.program j)) (KeptStack p.program s) (waiting p k) (λ j i. record { code = i.0; fits = i.1.0 h.fits; codes = i.1.1 })
      (only_both (IsMadeCode s) (λ (j : Stack P). (AllFit p k.frames → AllFit p j.frames) × IsCodeStack p.program j) (waiting p k) (go k.frames h.code.frames)
      (only_both (λ (j : Stack P). AllFit p k.frames → AllFit p j.frames) (IsCodeStack p.program) (waiting p k) (waiting_so p k) (waiting_code p k h.codes)))
    where
      go : (frames : List (Frame P)) → All (IsMadeFrame s) frames → Only (IsMadeCode s) (waiting_frames p frames)
      go [] i = tt
      go (frame ∷ below) i = any_then (IsMadeCode s) (needed (p.code.arrival frame.function frame.point)) _ λ back.
          record { store = h.code.store; frames = All-cons (IsMadeFrame s) (moved_to frame back) below (All-head (IsMadeFrame s) frame below i) (All-tail (IsMadeFrame s) frame below i); arriving = tt }

  module _ (steady : IsSteady p) where
    -- ---- answers

    pub reply_so : (k : Stack P) (v : Value) (s : State P (Thread P)) → Good s → KeptStack p.program s.store k → IsNamed p k.frames → IsMade s.store v → IsCode p.program v → Only Good (reply p k v s)
    reply_so k v s h stack named i c =
        only_then (λ (d : Done P). DoneMade s.store d × (DoneSo p s.store k.frames d × DoneCode p.program d)) Good (answered p s.store k v) (after_done s)
        (only_both (DoneMade s.store) (λ (d : Done P). DoneSo p s.store k.frames d × DoneCode p.program d) (answered p s.store k v) (answered_made p s.store k v stack.code i)
        (only_both (DoneSo p s.store k.frames) (DoneCode p.program) (answered p s.store k v) (answered_so p steady s.store k v named) (answered_code p s.store k v h.codes stack.codes c))) go
      where
        go : (d : Done P) → DoneMade s.store d × (DoneSo p s.store k.frames d × DoneCode p.program d) → Only Good (after_done s d)
        go (Went t j) l = with_code s t (Some j) h l.0.0 l.0.1.store (l.1.0.0 h.no_frames) l.1.1.0 (stack_is t j (record { code = l.0.1; fits = l.1.0.1 stack.fits; codes = l.1.1.1 }))
        go (Returned w t) l = tt
        go (Asks r) l = tt

    replies_so : (k : Stack P) (act : Answer (Store × Value)) (s : State P (Thread P)) → Good s → KeptStack p.program s.store k → IsNamed p k.frames
        → Only (Handed s.store) act → Only (λ (r : Store × Value). Stays s.store r.0) act → Only HandedCode act → Only Good (replies p k act s)
    replies_so k act s h stack named i stay code =
        only_then (λ (r : Store × Value). Handed s.store r × (Stays s.store r.0 × HandedCode r)) Good act _
        (only_both (Handed s.store) (λ (r : Store × Value). Stays s.store r.0 × HandedCode r) act i (only_both (λ (r : Store × Value). Stays s.store r.0) HandedCode act stay code)) λ r j.
        reply_so k r.1 (with_store s r.0) (with_store_so s r.0 h j.0.0 (j.1.0 h.no_frames) j.1.1.0) (later_stack s.store r.0 j.0.0.later j.0.0.made k stack) named j.0.1 j.1.1.1

    acts_so : (k : Stack P) (r : Result (Agenda (Thread P)) Fault) (s : State P (Thread P)) → Good s → KeptStack p.program s.store k → IsNamed p k.frames → Only (Lists s.store) (of_result r) → Only Good (acts p k r s)
    acts_so k r s h stack named i = only_then (Lists s.store) Good (of_result r) _ i λ a j. reply_so k Unset (with_agenda s a) (with_agenda_so s a h j) stack named tt tt

    prints_so : (k : Stack P) (bytes : Text) (s : State P (Thread P)) → Good s → KeptStack p.program s.store k → IsNamed p k.frames → Only Good (prints p k bytes s)
    prints_so k bytes s h stack named = reply_so k Unset (marks (Output bytes) s) (marks_so (Output bytes) s h) stack named tt tt

    -- ---- waits

    suspends_so : (s : State P (Thread P)) (r : Result (Agenda (Thread P)) Fault) → Good s → Only (Lists s.store) (of_result r) → Only Good (suspends s r)
    suspends_so s r h i = only_then (Lists s.store) Good (of_result r) _ i λ a j. with_lists s a None h j (no_stack s.store)

    pub own_so : (prim : Primitive) (vs : List Value) (k : Stack P) (s : State P (Thread P)) → Good s → KeptStack p.program s.store k → Only Good (thread_primitive p prim vs k s)
    own_so Yield [] k s h stack =
        only_then (KeptStack p.program s.store) Good (waiting p k) _ (waits_so s.store k stack) λ j i.
        suspends_so s (Ok (ready_one (Suspended j) s.agenda)) h (A.ready_one_so (Fine s.store) IsInt refl (Suspended j) s.agenda i h.agenda)
    own_so Sleep (v ∷ []) k s h stack =
        any_then Good (int_of v) _ λ z.
        only_then (KeptStack p.program s.store) Good (waiting p k) _ (waits_so s.store k stack) λ j i.
        suspends_so (marks (Sleeping z) s) (sleep z (Suspended j) s.agenda) (marks_so (Sleeping z) s h) (A.sleep_so (Fine s.store) IsInt refl z (Suspended j) s.agenda i h.agenda)
    own_so IoWait (v ∷ w ∷ []) k s h stack =
        any_then Good (int_of v) _ λ fd.
        any_then Good (int_of w) _ λ way.
        only_then (KeptStack p.program s.store) Good (waiting p k) _ (waits_so s.store k stack) λ j i.
        suspends_so (marks (Awaiting fd (direction_of way)) s) (Ok (io fd (direction_of way) (Suspended j) s.agenda)) (marks_so (Awaiting fd (direction_of way)) s h)
        (A.io_so (Fine s.store) IsInt refl fd (direction_of way) (Suspended j) s.agenda i h.agenda)
    own_so Wait (v ∷ []) k s h stack =
        any_then Good (cond_of v) _ λ c.
        only_then (KeptStack p.program s.store) Good (waiting p k) _ (waits_so s.store k stack) λ j i.
        suspends_so (marks (Waiting c) s) (wait c (Suspended j) s.agenda) (marks_so (Waiting c) s h) (A.wait_so (Fine s.store) IsInt refl c (Suspended j) s.agenda i h.agenda)
    own_so _ vs k s h stack = tt

    pub primitive_so : (prim : Primitive) (vs : List Value) (k : Stack P) (s : State P (Thread P)) → Good s → KeptStack p.program s.store k → IsNamed p k.frames → Only Good (primitive (threads_of p) prim vs k s)
    primitive_so Print (v ∷ []) k s h stack named = any_then Good (int_of v) _ λ z. prints_so k (signed_decimal z ++ 10 ∷ []) s h stack named
    primitive_so Putc (v ∷ []) k s h stack named = prints_so k _ s h stack named
    primitive_so Puts vs k s h stack named = prints_so k _ s h stack named
    primitive_so Now [] k s h stack named = reply_so k (Whole Long (pos s.agenda.now)) s h stack named tt tt
    primitive_so CondNew [] k s h stack named =
        reply_so k (Cond s.agenda.conditions_made) (with_agenda s (cond_new s.agenda))
        (with_agenda_so s (cond_new s.agenda) h (A.other_conditions (Fine s.store) IsInt refl (s.agenda.live ++ s.agenda.conditions_made ∷ []) (suc s.agenda.conditions_made) s.agenda h.agenda)) stack named tt tt
    primitive_so CondFree (v ∷ []) k s h stack named = any_then Good (cond_of v) _ λ n. acts_so k (cond_free n s.agenda) s h stack named (A.cond_free_so (Fine s.store) IsInt refl n s.agenda h.agenda)
    primitive_so Signal (v ∷ []) k s h stack named = any_then Good (cond_of v) _ λ n. acts_so k (signal n s.agenda) s h stack named (A.signal_so (Fine s.store) IsInt refl n s.agenda h.agenda)
    primitive_so SignalAll (v ∷ []) k s h stack named = any_then Good (cond_of v) _ λ n. acts_so k (signal_all n s.agenda) s h stack named (A.signal_all_so (Fine s.store) IsInt refl n s.agenda h.agenda)
    primitive_so Exit (v ∷ []) k s h stack named = any_then Good (int_of v) _ λ z. ends_so (Exited z) s h
    primitive_so Malloc (v ∷ []) k s h stack named = replies_so k (allocated Heap v s.store) s h stack named (allocated_made Heap v s.store h.store) (heap_allocated v s.store) (allocated_code v s.store h.codes)
    primitive_so Free (v ∷ []) k s h stack named = replies_so k (freed Heap v s.store) s h stack named (freed_made Heap v s.store h.store) (heap_freed v s.store) (freed_heap_code v s.store h.codes)
    primitive_so prim vs k s h stack named = own_so prim vs k s h stack

    -- ---- threads and sections

    spawns_so : (f : Text) (vs : List Value) (k : Stack P) (s : State P (Thread P)) → Good s → KeptStack p.program s.store k → IsNamed p k.frames → All (IsMade s.store) vs → All (IsCode p.program) vs → AsksSo p.program (ToSpawn f) vs → Only Good (spawns_thread p f vs k s)
    spawns_so f vs k s h stack named made codes asks =
        reply_so k Unset (with_agenda s (ready_one (Pending f vs) s.agenda))
        (with_agenda_so s (ready_one (Pending f vs) s.agenda) h (A.ready_one_so (Fine s.store) IsInt refl (Pending f vs) s.agenda (made, codes, λ g e. inr (asks g e)) h.agenda)) stack named tt tt

    submits_so : (f : Text) (vs : List Value) (item : Thread P) (s : State P (Thread P)) → Good s → Fine s.store item → All (IsMade s.store) vs → AsksSo p.program (Section f) vs → Only Good (submits p f vs item s)
    submits_so f vs item s h i made gives =
        only_then (Lists s.store) Good (of_result (section item s.agenda)) _ (A.section_so (Fine s.store) IsInt refl item s.agenda i h.agenda) λ a j.
        any_then Good (needed (function_named p.program f)) _ λ g.
        only_then (All (IsMade s.store)) Good (copy_of p.program g (first_or Unset vs) s.store) _ (copy_so p.program g (first_or Unset vs) s.store h.store) λ cells c.
        record {
          no_frames = h.no_frames;
          store = h.store;
          codes = h.codes;
          running = h.running;
          agenda = j;
          jobs = All-push (KeptJob p.program s.store) s.jobs _ h.jobs (record { arguments = rest_made s.store vs made; cells = c; pointer = first_made s.store vs made; gives = gives });
        }

    detaches_so : (f : Text) (vs : List Value) (k : Stack P) (s : State P (Thread P)) → Good s → KeptStack p.program s.store k → All (IsMade s.store) vs → AsksSo p.program (Section f) vs → Only Good (detaches_thread p f vs k s)
    detaches_so f vs k s h stack made gives =
        only_then (KeptStack p.program s.store) Good (waiting p k) _ (waits_so s.store k stack) λ j i.
        only_then Good Good (submits p f vs (Suspended j) s) _ (submits_so f vs (Suspended j) s h i made gives) λ t l. with_lists t t.agenda None l l.agenda (no_stack t.store)

    host_so : (x : Text) (vs : List Value) (k : Stack P) (s : State P (Thread P)) → Good s → KeptStack p.program s.store k → IsNamed p k.frames → Only Good (host_call p x vs k s)
    host_so x vs k s h stack named = any_then Good (ints_of vs) _ λ zs.
        reply_so k (Whole Long (first_answer s.history.answers)) _
        (told_so s (record s.history { answers = rest_of s.history.answers }) (s.trace ++ HostCall x zs (first_answer s.history.answers) ∷ []) s.outcome h) stack named tt tt

    pub asked_so : (k : Stack P) (s : State P (Thread P)) (asked : Asked) (vs : List Value) → Good s → KeptStack p.program s.store k → IsNamed p k.frames → All (IsMade s.store) vs → All (IsCode p.program) vs → AsksSo p.program asked vs
        → Only Good (asked_by (threads_of p) k s asked vs)
    asked_so k s (Builtin prim) vs h stack named made codes asks = primitive_so prim vs k s h stack named
    asked_so k s (Host x) vs h stack named made codes asks = host_so x vs k s h stack named
    asked_so k s (ToSpawn f) vs h stack named made codes asks = spawns_so f vs k s h stack named made codes asks
    asked_so k s (Section f) vs h stack named made codes asks = detaches_so f vs k s h stack made asks

    -- a thread is taken
    pub starts_so : (item : Thread P) (v : Value) (s : State P (Thread P)) → Good s → Fine s.store item → IsInt v → Only Good (starts_thread p item v s)
    starts_so (Pending f vs) v s h i int = runs_so f vs s h i.0 i.1 i.2
    starts_so (Suspended k) v s h i int =
        with_lists s s.agenda (Some (record k { arriving = Some v })) h h.agenda
        (stack_is s.store (record k { arriving = Some v }) (record { code = record { store = h.store; frames = i.code.frames; arriving = int_made s.store v int }; fits = i.fits; codes = record { frames = i.codes.frames; arriving = int_code p.program v int } }))
