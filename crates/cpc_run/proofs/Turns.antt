-- Where nothing runs: a turn of the round, and what is taken.
use Rattle.std.proofs.Common.{◌≡◌, ℕ, ◌<◌, ◌≤◌, length, Result, Err, IfOk, true, false, List, [], map, Option, Some, None, Ok, refl, sym, ap, subst, ◌∙◌}
use Rattle.cpc_base.specs.Bytes.{Text}
use Rattle.cpc_base.specs.declared.stop.NoMemory.{NoMemory}
use Rattle.cpc_num.specs.declared.kinds.Fault.{Fault}
use Rattle.cpc_tree.specs.Erase.{Names}
use Rattle.cpc_tree.specs.Points.{Point}
use Rattle.cpc_tree.specs.Syntax.{Function, Program}
use Rattle.cpc_tree.specs.Typing.{function_named}
use Rattle.cpc_tree.specs.Trace as T
use Rattle.cpc_store.specs.Store.{Store, Value}
use Rattle.cpc_meaning.specs.Agenda as A
use Rattle.cpc_meaning.specs.Answer.{Answer, Gives, Faults, NoAnswer, ◌>>=◌, needed}
use Rattle.cpc_meaning.specs.Events.{Callback, callbacks}
use Rattle.cpc_meaning.specs.Machine.{Machine, runs, schedules, settled, step_running, try_step, turns}
use Rattle.cpc_meaning.specs.Plain.{Frame, stack_of, make_frame}
use Rattle.cpc_meaning.specs.Trees.{trees}
use Rattle.cpc_meaning.proofs.Agendas.{SameAgenda, SameDue}
use Rattle.cpc_meaning.proofs.Both.{Both, Ends, Goes}
use Rattle.cpc_history_marks.specs.Views.{told_of}
use Rattle.cpc_meaning.specs.History.{polls_fit}
use Rattle.cpc_agenda_turns.specs.declared.turns.Turns.{Turns}
use Rattle.cpc_agenda_turns.specs.Laws.{turned}
use Rattle.cpc_agenda_turns.specs.Turns as N
use Rattle.cpc_agenda_turns.proofs.Follow.{turns_follow}
use Rattle.cpc_run_code.proofs.Stepping.{frame_never_fails}
use Rattle.cpc_run_code.specs.declared.items.Item.{Item}
use Rattle.cpc_run.specs.declared.looped.Loop.{Loop}
use Rattle.cpc_run_shown.specs.declared.outcome.Outcome.TheVariants as O
use Rattle.cpc_run_code.specs.declared.short.Short.{Short}
use Rattle.cpc_run_code.specs.Code.{store_in, stack_in}
use Rattle.cpc_run_shown.specs.Shown.{shown}
use Rattle.cpc_run.specs.declared.step.Step.{Step}
use Rattle.cpc_run.specs.declared.step.Step.TheVariants as X
use Rattle.cpc_run.specs.States.{States, IsCallback, Stands, DidTurn, CameTo, IsSteady, CountsPolls, lists_in, polls_in, settles, where_running, program_in}
use Rattle.cpc_run.proofs.Alike.{turn_same}
use Rattle.cpc_run.proofs.Asks.{same_lists, same_agenda}

-- ---- a call of a function

abbrev runs_in : States → Answer (Frame Point × Store) → Answer States
runs_in s a = do
  (frame, t) ← a
  Gives (record s { store = t; running = Some (stack_of frame) })

abbrev runs_named : Program → List Value → States → Option Function → Answer States
runs_named p vs s o = do
  g ← needed o
  (frame, t) ← make_frame (trees p) g vs s.store
  Gives (record s { store = t; running = Some (stack_of frame) })

-- where the code called the function as the definition does, the loop stands as the next state
module _ (names : Names) (l new : Loop) (printed : Text) (s : States) (h : Stands names l printed s) (turns : new.turns ≡ l.turns) (jobs : new.jobs ≡ l.jobs) (trace : new.trace ≡ l.trace) (running : new.running ≡ true) where
  abbrev Entered : Text → List Value → Type 0
  Entered f vs =
      (g : Function) (frame : Frame Point) (t : Store) → function_named (program_in names l) f ≡ Some g → make_frame (trees (program_in names l)) g vs (store_in names l.machine) ≡ Gives (frame, t)
      → (stack_in names new.machine ≡ stack_of frame) × (store_in names new.machine ≡ t)

  in_frame : (frame : Frame Point) (t : Store) → (stack_in names new.machine ≡ stack_of frame) × (store_in names new.machine ≡ t)
      → Stands names new printed (record s { store = t; running = Some (stack_of frame) })
  in_frame frame t e = record {
    store = sym e.1;
    running = ap Some (sym e.0) ∙ sym (ap (λ b. where_running b (stack_in names new.machine)) running);
    lists = same_lists names l new s turns jobs h.lists;
    printed_so = ap (λ b. shown b s.trace) trace ∙ h.printed_so;
    going = h.going;
  }

  made : (g : Function) (vs : List Value) (a : Answer (Frame Point × Store)) → ((fault : Fault) → a ≡ Faults fault → ⊥) → ((frame : Frame Point) (t : Store) → a ≡ Gives (frame, t) → (stack_in names new.machine ≡ stack_of frame) × (store_in names new.machine ≡ t))
      → DidTurn {E = Short} names (Ok X.On) new printed s (settles names l s (runs_in s a))
  made g vs NoAnswer none entered = tt
  made g vs (Faults fault) none entered = absurd (none fault refl)
  made g vs (Gives (frame, t)) none entered = in_frame frame t (entered frame t refl)

  named : (f : Text) (vs : List Value) (o : Option Function) → function_named (program_in names l) f ≡ o → Entered f vs
      → DidTurn {E = Short} names (Ok X.On) new printed s (settles names l s (runs_named (program_in names l) vs s o))
  named f vs None e entered = tt
  named f vs (Some g) e entered =
      made g vs (make_frame (trees (program_in names l)) g vs s.store) (frame_never_fails (program_in names l) g vs s.store)
      (λ frame t m. entered g frame t e (ap (make_frame (trees (program_in names l)) g vs) (sym h.store) ∙ m))

  pub called : (f : Text) (vs : List Value) → Entered f vs → DidTurn {E = Short} names (Ok X.On) new printed s (settles names l s (runs (trees (program_in names l)) f vs s))
  called f vs entered = named f vs (function_named (program_in names l) f) refl entered

-- ---- a turn

-- where nothing runs and the round is over, the step is a turn
empty_round : (names : Names) (xs : List (A.Due Item)) (ys : List (A.Due Callback)) → Both (SameDue (IsCallback names)) xs ys → xs ≡ [] → ys ≡ []
empty_round names _ _ Ends e = refl
empty_round names _ _ (Goes x y xs ys r b) e = absurd (cc e)

pub turn_step : (names : Names) (l : Loop) (printed : Text) (s : States) → Stands names l printed s → l.running ≡ false → (lists_in names l).round ≡ []
    → settles names l s (turns (callbacks (program_in names l)) s) ≡ try_step (callbacks (program_in names l)) s
turn_step names l printed s h idle none =
    let m = callbacks (program_in names l) in
    let running = h.running ∙ ap (λ b. where_running b (stack_in names l.machine)) idle in
    let round = empty_round names (lists_in names l).round s.agenda.round h.lists.agenda.round none in
    sym (ap (λ o. settled m s (step_running m s o)) running ∙ ap (λ r. settled m s (schedules m s r)) round)

-- the loop stands with the same lists
pub stands_as_before : (names : Names) (l mid : Loop) (printed : Text) (s : States) → mid.machine ≡ l.machine → mid.running ≡ l.running → mid.trace ≡ l.trace → mid.turns.polls.now ≡ l.turns.polls.now → mid.jobs ≡ l.jobs
    → lists_in names mid ≡ lists_in names l → Stands names l printed s → Stands names mid printed s
stands_as_before names l mid printed s machine running trace polls jobs same h = record {
  store = h.store ∙ ap (store_in names) (sym machine);
  running = h.running ∙ ap (λ b. where_running b (stack_in names l.machine)) (sym running) ∙ ap (λ m. where_running mid.running (stack_in names m)) (sym machine);
  lists = same_agenda names l mid s s.agenda polls jobs (subst (λ a. SameAgenda (IsCallback names) a s.agenda) (sym same) h.lists.agenda) (refl, refl) h.lists;
  printed_so = ap (λ b. shown b s.trace) trace ∙ h.printed_so;
  going = h.going;
}

module _ (names : Names) (l new : Loop) (printed : Text) (s : States) (h : Stands names l printed s) (machine : new.machine ≡ l.machine) (still : new.running ≡ l.running) (trace : new.trace ≡ l.trace) (jobs : new.jobs ≡ l.jobs) (polls : new.turns.polls.now ≡ l.turns.polls.now) where
  abbrev m : Machine Point Callback
  m = callbacks (program_in names l)

  -- the lists after the turn
  abbrev pub TurnedTo : N.Turn → Type 0
  TurnedTo t = N.TurnIs t (lists_in names l) (polls_in l) (lists_in names new)

  turned_so : (t : N.Turn) → TurnedTo t → (b : A.Agenda Callback) × SameAgenda (IsCallback names) (lists_in names new) b × N.TurnIs t s.agenda s.history.polls b × (turns m s ≡ turned m t s b)
  turned_so t e =
      let moved = subst (λ ps. N.TurnIs t (lists_in names l) ps (lists_in names new)) (sym h.lists.polls) e in
      let it = turn_same (IsCallback names) (lists_in names l) s.agenda h.lists.agenda t s.history.polls (lists_in names new) moved in
      (it.0, it.1, it.2, turns_follow Point Callback m s t it.0 it.2)

  running_so : s.running ≡ where_running new.running (stack_in names new.machine)
  running_so = h.running ∙ ap (λ b. where_running b (stack_in names l.machine)) (sym still) ∙ ap (λ x. where_running new.running (stack_in names x)) (sym machine)

  -- what is ready becomes the round
  pub round_began : TurnedTo N.Round → CameTo names X.On new printed s (settles names l s (turns m s))
  round_began e =
      let it = turned_so N.Round e in
      subst (λ a. CameTo names X.On new printed s (settles names l s a)) (sym it.3) (record {
        store = h.store ∙ ap (store_in names) (sym machine);
        running = running_so;
        lists = same_agenda names l new s it.0 polls jobs it.1 (ap (λ z. A.Agenda.sections z) it.2.begun, ap (λ z. A.Agenda.sections_made z) it.2.begun) h.lists;
        printed_so = ap (λ b. shown b s.trace) trace ∙ h.printed_so;
        going = h.going;
      })

  -- a poll is wanted
  pub poll_wanted : (told : T.Told) → TurnedTo (N.Poll told) → turns m s ≡ turned m (N.Poll told) s s.agenda
  poll_wanted told e = (turned_so (N.Poll told) e).3

  -- the run is over
  pub run_ended : (n : ℕ) (text : Text) → TurnedTo (N.Ended n) → CameTo names (X.Over (O.Ended n)) new text s (settles names l s (turns m s))
  run_ended n text e = subst (λ a. CameTo names (X.Over (O.Ended n)) new text s (settles names l s a)) (sym (turned_so (N.Ended n) e).3) refl

  pub history_over : (text : Text) → TurnedTo N.HistoryEnded → CameTo names (X.Over O.HistoryEnded) new text s (settles names l s (turns m s))
  history_over text e = subst (λ a. CameTo names (X.Over O.HistoryEnded) new text s (settles names l s a)) (sym (turned_so N.HistoryEnded e).3) refl

  pub poll_refused : (n : ℕ) (text : Text) → TurnedTo (N.BadHistory n) → CameTo names (X.Over (O.BadHistory n)) new text s (settles names l s (turns m s))
  poll_refused n text e = subst (λ a. CameTo names (X.Over (O.BadHistory n)) new text s (settles names l s a)) (sym (turned_so (N.BadHistory n) e).3) refl

-- ---- a poll that is wanted

pub wants_so : (names : Names) (l mid : Loop) (told : T.Told) → mid.turns.polls.now ≡ l.turns.polls.now → N.TurnIs (N.Poll told) (lists_in names l) (polls_in l) (lists_in names mid) → N.WantsPoll told (lists_in names mid) (polls_in mid)
wants_so names l mid told polls e =
    subst (λ ps. N.WantsPoll told (lists_in names mid) (map told_of ps)) (sym polls) (subst (λ a. N.WantsPoll told a (polls_in l)) (sym e.1) e.0)

-- the lists are others, with the same polls
pub steady_so : (l : Loop) (turns : Turns Item) → turns.polls.now ≡ l.turns.polls.now → IsSteady l → IsSteady (record l { turns = turns })
steady_so l turns polls h = record {
  well = h.well;
  idle = h.idle;
  fits = subst (λ ps. polls_fit (map told_of ps) ≡ true) (sym polls) h.fits;
  counted = subst (λ ps. length ps ≤ l.polls) (sym polls) h.counted;
  numbered = h.numbered;
}

counted_so : (l mid : Loop) (r : Step) → mid.turns.polls.now ≡ l.turns.polls.now → CountsPolls r mid → CountsPolls r l
counted_so l mid X.On e h = tt
counted_so l mid (X.Over outcome) e h = tt
counted_so l mid (X.Broke fault f) e h = subst (λ ps. 0 < length ps) e h

pub counts_so : (l mid : Loop) (r : Result Step NoMemory) → mid.turns.polls.now ≡ l.turns.polls.now → IfOk r (λ x. CountsPolls x mid) → IfOk r (λ x. CountsPolls x l)
counts_so l mid (Ok x) e h = counted_so l mid x e h
counts_so l mid (Err error) e h = tt
