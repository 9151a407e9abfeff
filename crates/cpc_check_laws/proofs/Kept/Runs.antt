-- Each step of the threads of steady code keeps what holds of their states, and it holds where they begin.
use Rattle.std.proofs.Common.{◌≡◌, inl, ℕ, ℤ, pos, map, zero, suc, ◌<◌, arith, Bool, true, false, List, [], ◌∷◌, ◌++◌, Option, Some, None, refl, subst, length}
use Rattle.std.specs.List.{All}
use Rattle.std.proofs.lemmas.List.Elements.{All-nil, All-cons, All-head, All-tail, All-weaker}
use Rattle.cpc_base.specs.Bytes.{Text}
use Rattle.cpc_num.specs.declared.kinds.Kind.{Kind}
use Rattle.cpc_tree.specs.declared.program.UnaryOp.TheVariants.{Minus}
use Rattle.cpc_tree.specs.Syntax.{Expr, EInteger, ECharacter, EText, EUnary, Item, StructItem, GlobalItem, PrototypeItem, FunctionItem, Program}
use Rattle.cpc_tree.specs.Lists.{is_empty}
use Rattle.cpc_tree.specs.Trace.{Told, Polled, Outcome, Going, Ended, Exited, Failed, HistoryEnded, BadHistory}
use Rattle.cpc_store.specs.declared.values.Class.TheVariants.{Static, Auto, Heap, Frame as FrameClass}
use Rattle.cpc_store.specs.declared.values.Scalar.{Scalar}
use Rattle.cpc_store.specs.declared.values.Scalar.TheVariants as S
use Rattle.cpc_store.specs.Store.{Value, Unset, Whole, Null, Store, empty_store, alloc}
use Rattle.cpc_meaning_matching.specs.Steps.{or_stay}
use Rattle.cpc_meaning_matching.specs.Systems.{run}
use Rattle.cpc_meaning.specs.Answer.{Answer, Gives, Faults, NoAnswer, needed}
use Rattle.cpc_meaning.specs.Layout.{layout}
use Rattle.cpc_meaning.specs.Plain.{Form, Stack, Done, Went, Returned, Asks, plain}
use Rattle.cpc_meaning.specs.Agenda.{Due, new_agenda, begin_round, needs_poll, completed, out, not_out, poll}
use Rattle.cpc_meaning.specs.History.{History}
use Rattle.cpc_meaning.specs.Copies.{Collected, AllGave, OneFailed, NotClear, collect}
use Rattle.cpc_meaning.specs.Machine.{State, with_agenda, with_store, polled, told_state, takes_poll, next_poll, next_round, turns_where, schedules, runs_on, code_step, step_running, settled, try_step, unless_over, next}
use Rattle.cpc_meaning.specs.Threads.{Thread, Pending, threads_of}
use Rattle.cpc_meaning.specs.Start.{zero_of, text_over, start_cells, make_globals, globals, opening, main_name}
use Rattle.cpc_meaning.specs.Matching.{thread_system}
use Rattle.cpc_meaning_laws.specs.Pointer.Made.{IsMade}
use Rattle.cpc_meaning_laws.proofs.Pointer.Blocks.{Only, only_then, any_then}
use Rattle.cpc_meaning_laws.proofs.Pointer.Steps.{DoneMade, plain_made}
use Rattle.cpc_meaning_laws.proofs.Pointer.Runs.{globals_come, empty_made, globals_made}
use Rattle.cpc_check_laws.specs.Kept.Codes.{IsCode, IsCodeStore}
use Rattle.cpc_check_laws.specs.Kept.Kept.{IsSteady, KeptStack, KeptThread, KeptJob, NoFrames, Kept}
use Rattle.cpc_check_laws.specs.Kept.Laws.{StepsKeep, NothingPointsToFrames}
use Rattle.cpc_check_laws.specs.Kept.Fits.{IsInt}
use Rattle.cpc_check_laws.proofs.Kept.Stores.{only_both, Stays}
use Rattle.cpc_check_laws.proofs.Kept.Codes.{alloc_code}
use Rattle.cpc_check_laws.proofs.Kept.CodeActs.{DoneCode, plain_code}
use Rattle.cpc_check_laws.proofs.Kept.Steps.{DoneSo, plain_so}
use Rattle.cpc_check_laws.proofs.Kept.Agendas as A
use Rattle.cpc_check_laws.proofs.Kept.Sections.{JobGives, CollectedSo, collect_so}
use Rattle.cpc_check_laws.proofs.Kept.Machine.{Good, Fine, with_code, stack_is, no_stack, with_store_so, with_agenda_so, told_so, ends_so, asked_so, starts_so}

-- ---- the beginning

no_frames_come : (p : Program) (items : List Item) (s : Store) → Only (Stays s) (make_globals p items s)
no_frames_come p [] s = λ e. e
no_frames_come p (GlobalItem x t start ∷ items) s = any_then (Stays s) (needed (layout p t)) _ λ scalars. no_frames_come p items (alloc Static (start_cells start scalars) s)
no_frames_come p (StructItem tag fs ∷ items) s = no_frames_come p items s
no_frames_come p (PrototypeItem mode f r ps ∷ items) s = no_frames_come p items s
no_frames_come p (FunctionItem f ∷ items) s = no_frames_come p items s

no_frames_there : (a : Answer Store) → Only (Stays empty_store) a → NoFrames (globals a)
no_frames_there (Gives s) h = h refl
no_frames_there (Faults fault) h = refl
no_frames_there NoAnswer h = refl

module _ (p : Program) where
  zeros_code : (scalars : List Scalar) → All (IsCode p) (map zero_of scalars)
  zeros_code [] = All-nil (IsCode p)
  zeros_code (S.Int kind ∷ xs) = All-cons (IsCode p) (Whole kind (pos 0)) (map zero_of xs) tt (zeros_code xs)
  zeros_code (S.Pointer ∷ xs) = All-cons (IsCode p) Null (map zero_of xs) tt (zeros_code xs)
  zeros_code (S.Code ∷ xs) = All-cons (IsCode p) Null (map zero_of xs) tt (zeros_code xs)
  zeros_code (S.Cond ∷ xs) = All-cons (IsCode p) Unset (map zero_of xs) tt (zeros_code xs)

  text_code : (bs : Text) (cells : List Value) → All (IsCode p) cells → All (IsCode p) (text_over bs cells)
  text_code bs [] h = h
  text_code [] (v ∷ vs) h = h
  text_code (b ∷ bs) (v ∷ vs) h = All-cons (IsCode p) _ (text_over bs vs) tt (text_code bs vs (All-tail (IsCode p) v vs h))

  one_code : (kind : Kind) (z : ℤ) → All (IsCode p) (Whole kind z ∷ [])
  one_code kind z = All-cons (IsCode p) (Whole kind z) [] tt (All-nil (IsCode p))

  start_code : (start : Option Expr) (scalars : List Scalar) → All (IsCode p) (start_cells start scalars)
  start_code (Some (EInteger j z)) (S.Int kind ∷ []) = one_code kind _
  start_code (Some (EUnary Minus (EInteger j z))) (S.Int kind ∷ []) = one_code kind _
  start_code (Some (ECharacter z)) (S.Int kind ∷ []) = one_code kind _
  start_code (Some (EText bs)) scalars = text_code bs (map zero_of scalars) (zeros_code scalars)
  start_code _ scalars = zeros_code scalars

  codes_come : (q : Program) (items : List Item) (s : Store) → IsCodeStore p s → Only (IsCodeStore p) (make_globals q items s)
  codes_come q [] s h = h
  codes_come q (GlobalItem x t start ∷ items) s h = any_then (IsCodeStore p) (needed (layout q t)) _ λ scalars.
      codes_come q items (alloc Static (start_cells start scalars) s) (alloc_code p Static (start_cells start scalars) s h (start_code start scalars))
  codes_come q (StructItem tag fs ∷ items) s h = codes_come q items s h
  codes_come q (PrototypeItem mode f r ps ∷ items) s h = codes_come q items s h
  codes_come q (FunctionItem f ∷ items) s h = codes_come q items s h

  empty_code : IsCodeStore p empty_store
  empty_code Static n cells e = absurd (cc)
  empty_code Auto n cells e = absurd (cc)
  empty_code Heap n cells e = absurd (cc)
  empty_code FrameClass n cells e = absurd (cc)

  globals_code : (a : Answer Store) → Only (IsCodeStore p) a → IsCodeStore p (globals a)
  globals_code (Gives s) h = h
  globals_code (Faults fault) h = empty_code
  globals_code NoAnswer h = empty_code

-- ---- steps

module _ {P : Type 0} (p : Form P) (steady : IsSteady p) where
  runs_on_so : (s : State P (Thread P)) (k : Stack P) (d : Done P) → Good p s → KeptStack p.program s.store k → DoneMade s.store d → DoneSo p s.store k.frames d → DoneCode p.program d → Only (Good p) (runs_on (threads_of p) s k d)
  runs_on_so s k (Went t j) h stack l m c = with_code p s t (Some j) h l.0 l.1.store (m.0 h.no_frames) c.0 (stack_is p t j (record { code = l.1; fits = m.1 stack.fits; codes = c.1 }))
  runs_on_so s k (Returned v t) h stack on m c = with_code p s t None h on.later on.made (m.0 h.no_frames) c (no_stack p t)
  runs_on_so s k (Asks r) h stack i m c = asked_so p steady k s r.asked r.arguments h stack m.1 i c m.0

  code_so : (s : State P (Thread P)) (k : Stack P) → Good p s → KeptStack p.program s.store k → Only (Good p) (code_step (threads_of p) s k)
  code_so s k h stack =
      only_then (λ (d : Done P). DoneMade s.store d × (DoneSo p s.store k.frames d × DoneCode p.program d)) (Good p) (plain p s.store k) _
      (only_both (DoneMade s.store) (λ (d : Done P). DoneSo p s.store k.frames d × DoneCode p.program d) (plain p s.store k) (plain_made p s.store k stack.code)
      (only_both (DoneSo p s.store k.frames) (DoneCode p.program) (plain p s.store k) (plain_so p steady s.store k) (plain_code p s.store k h.codes stack.codes))) λ d i. runs_on_so s k d h stack i.0 i.1.0 i.1.1

  -- ---- the loop

  polled_so : (told : Told) (s : State P (Thread P)) (x : Collected) → Good p s → CollectedSo p.program s.store x → Only (Good p) (polled (threads_of p) told s x)
  polled_so told s (AllGave vs t) h k =
      let h' = with_store_so p s t h k.1.0 (k.1.1 h.no_frames) k.1.2 in
      with_agenda_so p (with_store s t) (begin_round (poll told vs s.agenda)) h'
      (A.begin_round_so (Fine p t) IsInt refl (poll told vs s.agenda) (A.poll_so (Fine p t) IsInt refl told vs s.agenda k.0 h'.agenda))
  polled_so told s (OneFailed fault f) h k = ends_so p (Failed fault _) s h
  polled_so told s NotClear h k = tt

  takes_so : (s : State P (Thread P)) (told : Told) (polls : List Told) (not_out : Option ℕ) → Good p s → Only (Good p) (takes_poll (threads_of p) s told polls not_out)
  takes_so s told polls (Some n) h = ends_so p (BadHistory n) s h
  takes_so s told polls None h =
      polled_so told (told_state told polls s) (collect p s.history.section_bound s.jobs (completed told.events) s.store)
      (told_so p s (record s.history { polls = polls }) (s.trace ++ Polled told ∷ []) s.outcome h)
      (collect_so p steady s.history.section_bound s.jobs (completed told.events) s.store h.store h.codes (All-weaker (KeptJob p.program s.store) (JobGives p.program) (λ j k. k.gives) s.jobs h.jobs))

  poll_so : (s : State P (Thread P)) (polls : List Told) → Good p s → Only (Good p) (next_poll (threads_of p) s polls)
  poll_so s [] h = ends_so p HistoryEnded s h
  poll_so s (told ∷ polls) h = takes_so s told polls (not_out (completed told.events) (out s.agenda)) h

  round_so : (s : State P (Thread P)) (none_ready : Bool) → Good p s → Good p (next_round s none_ready)
  round_so s true h = ends_so p (Ended (length s.agenda.waiters)) s h
  round_so s false h = with_agenda_so p s (begin_round s.agenda) h (A.begin_round_so (Fine p s.store) IsInt refl s.agenda h.agenda)

  turns_so : (s : State P (Thread P)) (b : Bool) → Good p s → Only (Good p) (turns_where (threads_of p) s b)
  turns_so s true h = poll_so s s.history.polls h
  turns_so s false h = round_so s (is_empty s.agenda.ready) h

  schedules_so : (s : State P (Thread P)) (round : List (Due (Thread P))) → All (A.DueSo (Fine p s.store) IsInt refl) round → Good p s → Only (Good p) (schedules (threads_of p) s round)
  schedules_so s [] i h = turns_so s (needs_poll s.agenda) h
  schedules_so s (d ∷ ds) i h =
      let due = All-head (A.DueSo (Fine p s.store) IsInt refl) d ds i in
      starts_so p steady d.item d.result (with_agenda s (record s.agenda { round = ds }))
      (with_agenda_so p s (record s.agenda { round = ds }) h (A.later_round (Fine p s.store) IsInt refl ds s.agenda (All-tail (A.DueSo (Fine p s.store) IsInt refl) d ds i) h.agenda)) due.0 due.1

  running_so : (s : State P (Thread P)) (o : Option (Stack P)) → s.running ≡ o → Good p s → Only (Good p) (step_running (threads_of p) s o)
  running_so s None e h = schedules_so s s.agenda.round h.agenda.round h
  running_so s (Some k) e h = code_so s k h (h.running k e)

  -- nothing, or a state of which it holds
  abbrev Next : Option (State P (Thread P)) → Type 0
  Next None = Unit {0}
  Next (Some s) = Good p s

  settled_so : (s : State P (Thread P)) (a : Answer (State P (Thread P))) → Only (Good p) a → Good p s → Next (settled (threads_of p) s a)
  settled_so s (Gives t) i h = i
  settled_so s (Faults fault) i h = ends_so p _ s h
  settled_so s NoAnswer i h = tt

  going_so : (outcome : Outcome) (o : Option (State P (Thread P))) → Next o → Next (unless_over outcome o)
  going_so Going o h = h
  going_so (Ended n) o h = tt
  going_so (Exited z) o h = tt
  going_so (Failed fault f) o h = tt
  going_so HistoryEnded o h = tt
  going_so (BadHistory n) o h = tt

  next_so : (s : State P (Thread P)) → Good p s → Next (next (threads_of p) s)
  next_so s h = going_so s.outcome (try_step (threads_of p) s) (settled_so s (step_running (threads_of p) s s.running) (running_so s s.running refl h) h)

  pub goes_so : (s t : State P (Thread P)) → Good p s → next (threads_of p) s ≡ Some t → Good p t
  goes_so s t h e = subst Next e (next_so s h)

  stays_so : (s : State P (Thread P)) (o : Option (State P (Thread P))) → Good p s → Next o → Good p (or_stay s o)
  stays_so s None h i = h
  stays_so s (Some t) h i = i

  pub step_so : (s : State P (Thread P)) → Good p s → Good p (or_stay s (next (threads_of p) s))
  step_so s h = stays_so s (next (threads_of p) s) h (next_so s h)

-- where threads begin, over any positions
pub opening_so : {P : Type 0} (p : Program) (h : History) → Kept {P = P} p (opening p (Pending main_name []) h)
opening_so {P = P} p h = record {
  no_frames = no_frames_there (make_globals p p empty_store) (no_frames_come p p empty_store);
  store = globals_made (make_globals p p empty_store) (globals_come p p empty_store empty_made);
  codes = globals_code p (make_globals p p empty_store) (codes_come p p p empty_store (empty_code p));
  running = λ k e. absurd (cc);
  agenda = A.ready_one_so item IsInt refl (Pending main_name []) new_agenda (All-nil (IsMade start), All-nil (IsCode p), λ g e. inl refl) (A.nothing_there item IsInt refl);
  jobs = All-nil (KeptJob p start);
}
  where
    start : Store
    start = globals (make_globals p p empty_store)

    item : Thread P → Type 0
    item x = KeptThread p start x

pub threads_keep : {P : Type 0} (p : Form P) → IsSteady p → (h : History) → StepsKeep p h
threads_keep p steady h = record { opens = opening_so p.program h; goes = goes_so p steady }

pub runs_keep : {P : Type 0} (p : Form P) → IsSteady p → (h : History) (n : ℕ) → Kept p.program (run (thread_system p h) n)
runs_keep p steady h zero = opening_so p.program h
runs_keep p steady h (suc n) = step_so p steady (run (thread_system p h) n) (runs_keep p steady h n)

pub nothing_points_to_frames : NothingPointsToFrames
nothing_points_to_frames s n k e h = let below : n < 0 = subst (λ bs. n < length bs) e h in omega (arith, below)
