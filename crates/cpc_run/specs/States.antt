-- The loop of the code, as a state of the event machine.
use Rattle.std.specs.Prelude.{◌≡◌, ℕ, ◌<◌, ◌≤◌, ◌^◌, Bool, true, false, List, ◌∷◌, length, map, Option, Some, None, Result, Ok, Err}
use Rattle.cpc_base.specs.Bytes.{Text}
use Rattle.cpc_base.specs.declared.names.Name.{Name}
use Rattle.cpc_tree.specs.Erase.{Names}
use Rattle.cpc_tree.specs.Points.{Point}
use Rattle.cpc_tree.specs.Syntax.{Program}
use Rattle.cpc_tree.specs.Trace as T
use Rattle.cpc_tree.specs.declared.program.Program as GProgram
use Rattle.cpc_meaning.specs.Agenda as A
use Rattle.cpc_meaning.specs.Answer.{Answer}
use Rattle.cpc_meaning.specs.Events.{Callback, CallMain, CallWith, callbacks}
use Rattle.cpc_meaning.specs.History.{polls_fit}
use Rattle.cpc_meaning.specs.Machine.{State, ends, settled, told_state}
use Rattle.cpc_meaning.specs.Plain.{running_function}
use Rattle.cpc_meaning.specs.Runs.{live_cells}
use Rattle.cpc_meaning.specs.Section.{Job}
use Rattle.cpc_meaning.specs.Start.{main_name}
use Rattle.cpc_meaning.proofs.Agendas.{SameAgenda}
use Rattle.cpc_eval_values.specs.Shown.{value_of}
use Rattle.cpc_history_marks.specs.Views.{told_of}
use Rattle.cpc_agenda.specs.Lists.{lists_of}
use Rattle.cpc_agenda_turns.specs.declared.turns.Turns.{Turns}
use Rattle.cpc_num.specs.declared.kinds.Fault.{Fault}
use Rattle.cpc_run_jobs.specs.declared.jobs.Jobs.{Jobs}
use Rattle.cpc_run_jobs.specs.Holding.{Holds, Serves, IsAssigned, items_of as items_of_jobs}
use Rattle.cpc_run_code.specs.declared.items.Item.{Item}
use Rattle.cpc_run_code.specs.declared.items.Item.TheVariants as I
use Rattle.cpc_run.specs.declared.looped.Loop.{Loop}
use Rattle.cpc_run_shown.specs.declared.outcome.Outcome.{Outcome}
use Rattle.cpc_run_shown.specs.declared.outcome.Outcome.TheVariants as O
use Rattle.cpc_run.specs.declared.step.Step.{Step}
use Rattle.cpc_run.specs.declared.step.Step.TheVariants as X
use Rattle.cpc_run_code.specs.Code.{items_in, store_in, stack_in, IsIdle, IsWell, Runs}
use Rattle.cpc_run_code.specs.Made.{IsMadeRun}
use Rattle.cpc_run_shown.specs.Outcomes.{outcome_of}
use Rattle.cpc_run_shown.specs.Shown.{shown}

-- what the loop takes up
abbrev pub callback_of : Names → Item → Callback
callback_of names I.Main = CallMain
callback_of names (I.With c) = CallWith (names c.function) (value_of names c.pointer)

-- an item of the code is this one of the definitions
abbrev pub IsCallback : Names → Item → Callback → Type 0
IsCallback names item callback = callback_of names item ≡ callback

-- the lists of the loop
abbrev pub lists_in : Names → Loop → A.Agenda Item
lists_in names l = lists_of names l.turns.agenda

-- the polls that are left to it
abbrev pub polls_in : Loop → List T.Told
polls_in l = map told_of l.turns.polls.now

-- a stack, where one runs
abbrev pub where_running : {A : Type 0} → Bool → A → Option A
where_running true k = Some k
where_running false k = None

-- the event machine's states and steps
abbrev pub States : Type 0
States = State Point Callback

abbrev pub program_in : Names → Loop → Program
program_in names l = items_in names l.machine

-- what a step comes to that has this answer, from a state
abbrev pub settles : Names → Loop → States → Answer States → Option States
settles names l s a = settled (callbacks (program_in names l)) s a

-- the lists and the polls of the loop are these; the sections that are out are those it holds, and each may make so many steps
pub record SameLists (names : Names) (t : Turns Item) (j : Jobs) (a : A.Agenda Callback) (left : List T.Told) (bound : ℕ) (jobs : List Job) : Type 0 where
  pub agenda : SameAgenda (IsCallback names) (lists_of names t.agenda) a
  pub polls : left ≡ map told_of t.polls.now
  pub held : Holds names j jobs a.sections_made (A.out a)
  pub bound_so : bound ≡ j.bound

-- the lists, the polls and the sections of the loop are those of the state
abbrev pub HasLists : Names → Loop → States → Type 0
HasLists names l s = SameLists names l.turns l.jobs s.agenda s.history.polls s.history.section_bound s.jobs

-- the loop stands as the state, which goes on and for which these bytes went out
pub record Stands (names : Names) (l : Loop) (printed : Text) (s : States) : Type 0 where
  pub store : s.store ≡ store_in names l.machine
  pub running : s.running ≡ where_running l.running (stack_in names l.machine)
  pub lists : HasLists names l s
  pub printed_so : shown l.trace s.trace ≡ printed
  pub going : s.outcome ≡ T.Going

-- each pointer of the state leads into a block that was made, and no more cells are live than the cap allows
pub record Within (cap : ℕ) (s : States) : Type 0 where
  pub made : IsMadeRun s
  pub live : live_cells s ≤ cap

-- what the texts of names and the program have to be, which is that of its sections, and that `main` is called by its name
pub record Fits (names : Names) (l : Loop) : Type 0 where
  pub runs : Runs names l.machine
  pub main : names l.main ≡ main_name
  pub serves : Serves names l.jobs
  pub items : items_of_jobs names l.jobs ≡ program_in names l

-- what the loop keeps
pub record IsSteady (l : Loop) : Type 0 where
  pub well : IsWell l.machine
  pub idle : l.running ≡ false → IsIdle l.machine
  pub fits : polls_fit (polls_in l) ≡ true
  pub counted : length l.turns.polls.now ≤ l.polls
  pub numbered : l.polls < 2 ^ 64

-- the program, the name of `main`, whose sections they are, what is shown and the number of all polls stay
pub record Keeps (old new : Loop) : Type 0 where
  pub program : (names : Names) → program_in names new ≡ program_in names old
  pub runs : (names : Names) → Fits names old → Fits names new
  pub assigned : (p : Option GProgram.Program) (bound : ℕ) → IsAssigned p bound old.jobs → IsAssigned p bound new.jobs
  pub trace : new.trace ≡ old.trace
  pub polls : new.polls ≡ old.polls

-- what a step came to, where s was before it: the loop stands as the next state, or s is over; nothing is said where no rule fits
abbrev pub Came : Names → Option Outcome → Loop → Text → States → Option States → Type 0
Came names r l printed s None = Unit {0}
Came names None l printed s (Some t) = Stands names l printed t
Came names (Some outcome) l printed s (Some t) = t ≡ ends (outcome_of names outcome) s

-- the same; of a step that was not made nothing is said
abbrev pub Did : {E : Type 0} → Names → Result (Option Outcome) E → Loop → Text → States → Option States → Type 0
Did names (Err e) l printed s o = Unit {0}
Did names (Ok r) l printed s o = Came names r l printed s o

-- the first poll of s was taken, for which this went out with what was there, and a section failed that it tells
pub record Breaks (names : Names) (fault : Fault) (f : Name) (trace : Bool) (printed : Text) (s t : States) : Type 0 where
  pub told : T.Told
  pub left : List T.Told
  pub next : s.history.polls ≡ told ∷ left
  pub over : t ≡ ends (outcome_of names (O.Failed fault f)) (told_state told left s)
  pub printed_so : shown trace t.trace ≡ printed

-- what a step came to where nothing ran, from s
abbrev pub CameTo : Names → Step → Loop → Text → States → Option States → Type 0
CameTo names r l printed s None = Unit {0}
CameTo names X.On l printed s (Some t) = Stands names l printed t
CameTo names (X.Over outcome) l printed s (Some t) = t ≡ ends (outcome_of names outcome) s
CameTo names (X.Broke fault f) l printed s (Some t) = Breaks names fault f l.trace printed s t

-- the same; of a step that was not made nothing is said
abbrev pub DidTurn : {E : Type 0} → Names → Result Step E → Loop → Text → States → Option States → Type 0
DidTurn names (Err e) l printed s o = Unit {0}
DidTurn names (Ok r) l printed s o = CameTo names r l printed s o

-- s runs on, whose code asks in this function, and the loop stands as t, which is s after what the request does, but for its answer
pub record Acted (names : Names) (l : Loop) (function : Name) (printed : Text) (s t : States) : Type 0 where
  pub store : t.store ≡ store_in names l.machine
  pub asks : s.running ≡ Some (stack_in names l.machine)
  pub name : names function ≡ running_function (stack_in names l.machine)
  pub lists : HasLists names l t
  pub printed_so : shown l.trace t.trace ≡ printed
  pub going : t.outcome ≡ T.Going

-- a step that broke took a poll, so that one was there
abbrev pub CountsPolls : Step → Loop → Type 0
CountsPolls (X.Broke fault f) l = 0 < length l.turns.polls.now
CountsPolls r l = Unit {0}

-- where a step goes on, the loop is as before in what it keeps
abbrev pub GoesSteady : {E : Type 0} → Result (Option Outcome) E → Loop → Type 0
GoesSteady (Ok None) l = IsSteady l
GoesSteady _ l = Unit {0}

-- the same of a step where nothing ran
abbrev pub TurnsSteady : {E : Type 0} → Result Step E → Loop → Type 0
TurnsSteady (Ok X.On) l = IsSteady l
TurnsSteady _ l = Unit {0}
