-- In each state of an event run to which no poll is told each pointer leads into a block that was made.
use Rattle.std.proofs.Common.{◌≡◌, ℕ, zero, suc, Bool, true, false, List, [], ◌∷◌, map, Option, Some, None, refl}
use Rattle.std.specs.List.{All}
use Rattle.std.proofs.lemmas.List.Elements.{All-nil, All-head, All-tail}
use Rattle.cpc_base.specs.Bytes.{Text}
use Rattle.cpc_tree.specs.declared.program.UnaryOp.TheVariants.{Minus}
use Rattle.cpc_tree.specs.Syntax.{Expr, EInteger, ECharacter, EText, EUnary, Item, StructItem, GlobalItem, PrototypeItem, FunctionItem, Program}
use Rattle.cpc_tree.specs.Lists.{is_empty}
use Rattle.cpc_tree.specs.Trace.{Told, Outcome, Going, Ended, Exited, Failed, HistoryEnded, BadHistory}
use Rattle.cpc_num.specs.declared.kinds.Kind.TheVariants.{Long}
use Rattle.cpc_store.specs.declared.values.Class.{Class}
use Rattle.cpc_store.specs.declared.values.Class.TheVariants.{Static, Auto, Heap, Frame}
use Rattle.cpc_store.specs.declared.values.Scalar.{Scalar}
use Rattle.cpc_store.specs.declared.values.Scalar.TheVariants as S
use Rattle.cpc_store.specs.Store.{Value, Whole, Store, empty_store, alloc, cells_of}
use Rattle.cpc_meaning_matching.specs.Steps.{or_stay}
use Rattle.cpc_meaning.specs.Answer.{Answer, Gives, Faults, NoAnswer, needed}
use Rattle.cpc_meaning.specs.Layout.{layout}
use Rattle.cpc_meaning.specs.Requests.{Asked, Builtin, Host, ToSpawn, Section}
use Rattle.cpc_meaning.specs.Plain.{Form, Stack, Done, Went, Returned, Asks, plain}
use Rattle.cpc_meaning.specs.Trees.{trees}
use Rattle.cpc_meaning.specs.Agenda.{Due, new_agenda, begin_round, needs_poll}
use Rattle.cpc_meaning.specs.History.{History}
use Rattle.cpc_meaning.specs.Machine.{State, with_agenda, ints_of, first_answer, host_call, asked_by, next_poll, next_round, turns_where, schedules, runs_on, code_step, step_running, settled, try_step, unless_over, next, step}
use Rattle.cpc_meaning.specs.Events.{Callback, CallMain, callbacks_of, event}
use Rattle.cpc_meaning.specs.Start.{zero_of, text_over, start_cells, make_globals, globals, opening}
use Rattle.cpc_meaning_laws.specs.Pointer.Made.{IsMade, IsMadeStore, IsMadeCode, IsMadeAgenda, IsMadeState}
use Rattle.cpc_meaning_laws.specs.Pointer.Laws.{RunsAreMade}
use Rattle.cpc_meaning_laws.proofs.Pointer.Blocks.{Only, only_then, any_then}
use Rattle.cpc_meaning_laws.proofs.Pointer.Stores.{IsMadeCells, cells_none, cells_more, alloc_onward}
use Rattle.cpc_meaning_laws.proofs.Pointer.Steps.{DoneMade, plain_made}
use Rattle.cpc_meaning_laws.proofs.Pointer.Agendas.{DueMade, ready_one_made, begin_round_made, later_round}
use Rattle.cpc_meaning_laws.proofs.Pointer.Machine.{Good, with_code, code_is, with_agenda_good, ends_good, reply_good, starts_good, primitive_good}

-- ---- the globals

module _ (s : Store) where
  zero_made : (scalar : Scalar) → IsMade s (zero_of scalar)
  zero_made (S.Int kind) = tt
  zero_made S.Pointer = tt
  zero_made S.Code = tt
  zero_made S.Cond = tt

  zeros_made : (scalars : List Scalar) → IsMadeCells s (map zero_of scalars)
  zeros_made [] = cells_none s
  zeros_made (x ∷ xs) = cells_more s (zero_of x) (map zero_of xs) (zero_made x) (zeros_made xs)

  text_made : (bs : Text) (cells : List Value) → IsMadeCells s cells → IsMadeCells s (text_over bs cells)
  text_made bs [] h = cells_none s
  text_made [] (v ∷ vs) h = h
  text_made (b ∷ bs) (v ∷ vs) h = cells_more s _ (text_over bs vs) tt (text_made bs vs (λ k. h (suc k)))

  start_made : (start : Option Expr) (scalars : List Scalar) → IsMadeCells s (start_cells start scalars)
  start_made (Some (EInteger j z)) (S.Int kind ∷ []) = cells_more s _ [] tt (cells_none s)
  start_made (Some (EUnary Minus (EInteger j z))) (S.Int kind ∷ []) = cells_more s _ [] tt (cells_none s)
  start_made (Some (ECharacter z)) (S.Int kind ∷ []) = cells_more s _ [] tt (cells_none s)
  start_made (Some (EText bs)) scalars = text_made bs (map zero_of scalars) (zeros_made scalars)
  start_made _ scalars = zeros_made scalars

pub globals_come : (p : Program) (items : List Item) (s : Store) → IsMadeStore s → Only IsMadeStore (make_globals p items s)
globals_come p [] s made = made
globals_come p (GlobalItem x t start ∷ items) s made =
    any_then IsMadeStore (needed (layout p t)) _ λ scalars.
    globals_come p items (alloc Static (start_cells start scalars) s) (alloc_onward Static (start_cells start scalars) s made (start_made s start scalars)).made
globals_come p (StructItem tag fs ∷ items) s made = globals_come p items s made
globals_come p (PrototypeItem mode f r ps ∷ items) s made = globals_come p items s made
globals_come p (FunctionItem f ∷ items) s made = globals_come p items s made

-- no block, no cell
pub empty_made : IsMadeStore empty_store
empty_made c n k cells v e g = no_cells c n e
  where
    no_cells : (c : Class) (n : ℕ) → cells_of c n empty_store ≡ Some cells → IsMade empty_store v
    no_cells Static n e = absurd (cc)
    no_cells Auto n e = absurd (cc)
    no_cells Heap n e = absurd (cc)
    no_cells Frame n e = absurd (cc)

pub globals_made : (a : Answer Store) → Only IsMadeStore a → IsMadeStore (globals a)
globals_made (Gives s) h = h
globals_made (Faults fault) h = empty_made
globals_made NoAnswer h = empty_made

-- ---- steps

module _ {P : Type 0} (p : Form P) where
  host_good : (x : Text) (vs : List Value) (k : Stack P) (s : State P Callback) → Good p s → IsMadeCode s.store k → Only (Good p) (host_call p x vs k s)
  host_good x vs k s h code = any_then (Good p) (ints_of vs) _ λ zs.
      reply_good p k (Whole Long (first_answer s.history.answers)) _ (record { made = record { store = h.made.store; running = h.made.running; agenda = h.made.agenda }; polls = h.polls }) code tt

  asked_good : (k : Stack P) (s : State P Callback) (asked : Asked) (vs : List Value) → Good p s → IsMadeCode s.store k → All (IsMade s.store) vs → Only (Good p) (asked_by (callbacks_of p) k s asked vs)
  asked_good k s (Builtin prim) vs h code i = primitive_good p prim vs k s h code i
  asked_good k s (Host x) vs h code i = host_good x vs k s h code
  asked_good k s (ToSpawn f) vs h code i = tt
  asked_good k s (Section f) vs h code i = tt

  no_stack : (t : Store) (j : Stack P) → None ≡ Some j → IsMadeCode t j
  no_stack t j e = absurd (cc)

  runs_on_good : (s : State P Callback) (k : Stack P) (x : Done P) → Good p s → IsMadeCode s.store k → DoneMade s.store x → Only (Good p) (runs_on (callbacks_of p) s k x)
  runs_on_good s k (Went t j) h code l = with_code p s t (Some j) h l.0 l.1.store (code_is p t j l.1)
  runs_on_good s k (Returned v t) h code on = with_code p s t None h on.later on.made (no_stack t)
  runs_on_good s k (Asks r) h code i = asked_good k s r.asked r.arguments h code i

  code_good : (s : State P Callback) (k : Stack P) → Good p s → IsMadeCode s.store k → Only (Good p) (code_step (callbacks_of p) s k)
  code_good s k h code = only_then (DoneMade s.store) (Good p) (plain p s.store k) _ (plain_made p s.store k code) λ x i. runs_on_good s k x h code i

  -- ---- the loop

  poll_good : (s : State P Callback) (polls : List Told) → polls ≡ [] → Good p s → Only (Good p) (next_poll (callbacks_of p) s polls)
  poll_good s [] e h = ends_good p HistoryEnded s h
  poll_good s (told ∷ polls) e h = absurd (cc)

  round_good : (s : State P Callback) (none_ready : Bool) → Good p s → Good p (next_round s none_ready)
  round_good s true h = ends_good p _ s h
  round_good s false h = with_agenda_good p s (begin_round s.agenda) h (begin_round_made s.store s.agenda h.made.agenda)

  turns_good : (s : State P Callback) (b : Bool) → Good p s → Only (Good p) (turns_where (callbacks_of p) s b)
  turns_good s true h = poll_good s s.history.polls h.polls h
  turns_good s false h = round_good s (is_empty s.agenda.ready) h

  schedules_good : (s : State P Callback) (round : List (Due Callback)) → All (DueMade s.store) round → Good p s → Only (Good p) (schedules (callbacks_of p) s round)
  schedules_good s [] i h = turns_good s (needs_poll s.agenda) h
  schedules_good s (d ∷ ds) i h =
      let due = All-head (DueMade s.store) d ds i in
      starts_good p d.item d.result (with_agenda s (record s.agenda { round = ds }))
      (with_agenda_good p s (record s.agenda { round = ds }) h (later_round s.store ds s.agenda (All-tail (DueMade s.store) d ds i) h.made.agenda)) due.0 due.1

  running_good : (s : State P Callback) (o : Option (Stack P)) → s.running ≡ o → Good p s → Only (Good p) (step_running (callbacks_of p) s o)
  running_good s None e h = schedules_good s s.agenda.round h.made.agenda.round h
  running_good s (Some k) e h = code_good s k h (h.made.running k e)

  -- nothing, or a state of which it holds
  abbrev Next : Option (State P Callback) → Type 0
  Next None = Unit {0}
  Next (Some s) = Good p s

  settled_good : (s : State P Callback) (a : Answer (State P Callback)) → Only (Good p) a → Good p s → Next (settled (callbacks_of p) s a)
  settled_good s (Gives t) i h = i
  settled_good s (Faults fault) i h = ends_good p _ s h
  settled_good s NoAnswer i h = tt

  going_good : (outcome : Outcome) (o : Option (State P Callback)) → Next o → Next (unless_over outcome o)
  going_good Going o h = h
  going_good (Ended n) o h = tt
  going_good (Exited z) o h = tt
  going_good (Failed fault f) o h = tt
  going_good HistoryEnded o h = tt
  going_good (BadHistory n) o h = tt

  stays_good : (s : State P Callback) (o : Option (State P Callback)) → Good p s → Next o → Good p (or_stay s o)
  stays_good s None h i = h
  stays_good s (Some t) h i = i

  pub step_good : (s : State P Callback) → Good p s → Good p (step (callbacks_of p) s)
  step_good s h =
      stays_good s (next (callbacks_of p) s) h
      (going_good s.outcome (try_step (callbacks_of p) s) (settled_good s (step_running (callbacks_of p) s s.running) (running_good s s.running refl h) h))

  opening_good : (q : Program) (h : History) → h.polls ≡ [] → Good p (opening q CallMain h)
  opening_good q h e = record { made = record { store = store; running = no_stack _; agenda = ready_one_made _ CallMain new_agenda tt fresh }; polls = e }
    where
      store : IsMadeStore (globals (make_globals q q empty_store))
      store = globals_made (make_globals q q empty_store) (globals_come q q empty_store empty_made)

      fresh : IsMadeAgenda (globals (make_globals q q empty_store)) new_agenda
      fresh = record { ready = All-nil _; round = All-nil _; waiters = All-nil _; descriptors = All-nil _; timers = All-nil _; sections = All-nil _ }

-- the states of a run
run_good : (q : Program) (h : History) (n : ℕ) → h.polls ≡ [] → Good (trees q) (event q h n)
run_good q h zero e = opening_good (trees q) q h e
run_good q h (suc n) e = step_good (trees q) (event q h n) (run_good q h n e)

pub runs_are_made : RunsAreMade
runs_are_made q h n e = (run_good q h n e).made

-- the code that runs in such a state
pub code_made : {P : Type 0} (s : State P Callback) (k : Stack P) → IsMadeState s → s.running ≡ Some k → IsMadeCode s.store k
code_made s k h e = h.running k e
