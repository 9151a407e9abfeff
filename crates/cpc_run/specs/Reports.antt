-- What is told of a run: how it was left, after how many steps and polls, and what went out.
use Rattle.std.specs.Prelude.{◌≡◌, ◌⊎◌, ℕ, ℤ, suc, ◌+◌, ◌<◌, ◌≤◌, Bool, true, List, [], ◌++◌, length, map, Option, Some, None, Result, Ok, Err}
use Rattle.std.specs.Io.KnownBytes.{append_known}
use Rattle.cpc_base.specs.Bytes.{Text}
use Rattle.cpc_base.specs.declared.names.Name.{Name}
use Rattle.cpc_base.specs.declared.stop.NoMemory.{NoMemory}
use Rattle.cpc_tree.specs.Erase.{Names, Table, in_table, item_of}
use Rattle.cpc_tree.specs.declared.program.Program as GProgram
use Rattle.cpc_tree.specs.Syntax.{Program}
use Rattle.cpc_tree.specs.Trace as T
use Rattle.cpc_check_rules.specs.Apart.{Spells}
use Rattle.cpc_meaning.specs.Events.{CallMain, callbacks, event}
use Rattle.cpc_meaning.specs.History.{History}
use Rattle.cpc_meaning.specs.Machine.{ends, IsStuck}
use Rattle.cpc_meaning.specs.Runs.{live_cells, Full}
use Rattle.cpc_meaning.specs.Start.{opening}
use Rattle.cpc_run_code.specs.Laws.{AreOthers}
use Rattle.cpc_history_marks.specs.declared.marks.Told.{Told}
use Rattle.cpc_history_marks.specs.Views.{told_of}
use Rattle.cpc_run.specs.declared.looped.Loop.{Loop}
use Rattle.cpc_run_shown.specs.declared.outcome.Ended.{Ended}
use Rattle.cpc_run_shown.specs.declared.outcome.Ended.TheVariants as E
use Rattle.cpc_run_shown.specs.declared.outcome.Limits.{Limits}
use Rattle.cpc_run_shown.specs.declared.outcome.Outcome.{Outcome}
use Rattle.cpc_run_shown.specs.declared.outcome.RunReport.{RunReport}
use Rattle.cpc_run.specs.declared.made.Made.{Made}
use Rattle.cpc_run.specs.declared.made.Made.TheVariants as M
use Rattle.cpc_run_code.specs.Made.{IsMadeRun}
use Rattle.cpc_run.specs.Hosts.{answers_of, HasHosts, HostsMeet, with_answers}
use Rattle.cpc_run_shown.specs.Outcomes.{outcome_of}
use Rattle.cpc_run_shown.specs.Shown.{shown, all_shown, last_of}
use Rattle.cpc_run.specs.States.{States, Stands, Breaks, Fits, IsSteady, program_in}
use Rattle.cpc_run_shown.specs.Known.{IsInTable}

-- a sink took some bytes that have P
abbrev pub Wrote : (old new : Option Text) → (Text → Type 0) → Type 0
Wrote old new P = (bytes : Text) × (new ≡ append_known old bytes) × P bytes

-- the bytes are the first of these
pub record IsPrefix (front all : Text) : Type 0 where
  pub rest : Text
  pub whole : all ≡ front ++ rest

-- the bytes are the first of these, and not all of them
pub record IsCutShort (front all : Text) : Type 0 where
  pub part : IsPrefix front all
  pub short : length front < length all

-- the history of a run that is told these polls, before a host has answered, where a section may make so many steps
abbrev pub history_of : List Told → (section_bound : ℕ) → History
history_of polls section_bound = record { polls = map told_of polls; answers = []; section_bound = section_bound }

-- q's event run over a history after n steps
abbrev pub run_of : Program → History → ℕ → States
run_of q h n = event q h n

-- ---- how a run was left

-- it is over after n steps, and was not before
pub record IsOver (names : Names) (q : Program) (h : History) (bound n : ℕ) (outcome : Outcome) : Type 0 where
  pub within : n ≤ bound
  pub over : (run_of q h n).outcome ≡ outcome_of names outcome
  pub before : (m : ℕ) → m < n → (run_of q h m).outcome ≡ T.Going

-- it made as many steps as it may, and is not over; its first state has no more live cells than the cap
pub record IsStopped (q : Program) (h : History) (bound cap n : ℕ) : Type 0 where
  pub at_bound : n ≡ bound
  pub going : (run_of q h n).outcome ≡ T.Going
  pub first : live_cells (run_of q h 0) ≤ cap

-- the next step, which the bound allows, would leave these live cells, more than the cap; or the first state has them
abbrev pub IsFull : (q : Program) → (h : History) → (bound cap n cells : ℕ) → Type 0
IsFull q h bound cap n cells = ((n < bound) × (live_cells (run_of q h n) ≤ cap) × Full q h n cap × (cells ≡ live_cells (run_of q h (suc n)))) ⊎ ((n ≡ 0) × (cap < cells) × (cells ≡ live_cells (run_of q h 0)))

-- it was broken off after n steps, and was not over before
pub record IsBrokenOff (q : Program) (h : History) (bound n : ℕ) : Type 0 where
  pub within : n ≤ bound
  pub going : (m : ℕ) → m < n → (run_of q h m).outcome ≡ T.Going

-- why it was left; no run begins where a function of the host is missing
abbrev pub IsLeft : Names → (q : Program) → (h : History) → Limits → (n : ℕ) → Ended → Type 0
IsLeft names q h limits n (E.Over outcome) = IsOver names q h limits.steps n outcome
IsLeft names q h limits n E.Steps = IsStopped q h limits.steps limits.cells n
IsLeft names q h limits n (E.Full cells) = IsFull q h limits.steps limits.cells n cells
IsLeft names q h limits n E.WriteFault = IsBrokenOff q h limits.steps n
IsLeft names q h limits n E.Memory = IsBrokenOff q h limits.steps n
IsLeft names q h limits n (E.NoHost x) = ⊥

-- where a run is left for another reason than its cells, its first state has no more of them than the cap
abbrev pub KeepsFirst : (q : Program) → (h : History) → (cap : ℕ) → Ended → Type 0
KeepsFirst q h cap (E.Full cells) = Unit {0}
KeepsFirst q h cap ended = live_cells (run_of q h 0) ≤ cap

-- where memory was wanting, the first state has no more live cells than the cap, unless it was not made, or memory was wanting for the last
-- line of a trace, which tells that it has more
abbrev pub StartsWithin : (q : Program) → (h : History) → (cap : ℕ) → (trace : Bool) → (cells : ℕ) → Ended → Type 0
StartsWithin q h cap trace cells ended = ended ≡ E.Memory → (live_cells (run_of q h 0) ≤ cap) ⊎ ((trace ≡ true) ⊎ (cells ≡ 0))

-- what went out: all, with the last line of a trace; or the first part of it, where memory was wanting, or the sink failed, which then has not
-- taken all of it, and which may have been at the last line of a run that was left so
abbrev pub WentOut : Names → (q : Program) → (h : History) → Limits → (trace : Bool) → (n : ℕ) → Ended → (out : Text) → Type 0
WentOut names q h limits trace n E.WriteFault out = (due : Ended) × IsLeft names q h limits n due × KeepsFirst q h limits.cells due × IsCutShort out (all_shown names trace due (run_of q h n).trace)
WentOut names q h limits trace n E.Memory out = IsPrefix out (shown trace (run_of q h n).trace)
WentOut names q h limits trace n (E.Over outcome) out = out ≡ all_shown names trace (E.Over outcome) (run_of q h n).trace
WentOut names q h limits trace n E.Steps out = out ≡ all_shown names trace E.Steps (run_of q h n).trace
WentOut names q h limits trace n (E.Full cells) out = out ≡ all_shown names trace (E.Full cells) (run_of q h n).trace
WentOut names q h limits trace n (E.NoHost x) out = ⊥

-- a report of q's run, and what went out; where memory was wanting before the first state, nothing is said of its cells
pub record Tells (names : Names) (q : Program) (h : History) (limits : Limits) (trace : Bool) (report : RunReport) (out : Text) : Type 0 where
  pub left : IsLeft names q h limits report.steps report.ended
  pub wrote : WentOut names q h limits trace report.steps report.ended out
  pub cells : (report.cells ≡ live_cells (run_of q h report.steps)) ⊎ ((report.ended ≡ E.Memory) × (report.steps ≡ 0) × (report.cells ≡ 0))
  pub bounded : (m : ℕ) → 0 < report.steps → m ≤ report.steps → live_cells (run_of q h m) ≤ limits.cells
  pub first : StartsWithin q h limits.cells trace report.cells report.ended
  pub polls : length h.polls ≡ report.polls + length (run_of q h report.steps).history.polls

-- a report of q's run over the polls of a history, with what its hosts answered: each answer is one that they may give, and a mark
-- of the run tells it; and what went out
pub record Ran (allows : Text → List ℤ → ℤ → Type 0) (names : Names) (q : Program) (h : History) (limits : Limits) (trace : Bool) (report : RunReport) (out : Text) : Type 0 where
  pub answers : List ℤ
  pub tells : Tells names q (with_answers h answers) limits trace report out
  pub answered : answers_of (run_of q (with_answers h answers) report.steps).trace ≡ answers
  pub meets : HostsMeet allows (run_of q (with_answers h answers) report.steps).trace

-- no run was begun, since this function of the host is missing
pub record IsMissing (names : Names) (x : Text) (report : RunReport) : Type 0 where
  pub name : Name
  pub named : names name ≡ x
  pub told : report ≡ record { ended = E.NoHost name; steps = 0; cells = 0; polls = 0 }

-- ---- on the way

-- no state of q's run is stuck
abbrev pub NeverStuck : Program → History → Type 0
NeverStuck q h = (n : ℕ) → ¬ IsStuck (callbacks q) (run_of q h n)

-- the loop has made n steps of q's run, none of which left more live cells than the cap, and put these bytes out
pub record Reached (names : Names) (q : Program) (h : History) (cap : ℕ) (trace : Bool) (l : Loop) (printed : Text) (n cells : ℕ) : Type 0 where
  pub fits : Fits names l
  pub program : program_in names l ≡ q
  pub stands : Stands names l printed (run_of q h n)
  pub cells_are : cells ≡ live_cells (run_of q h n)
  pub going : (m : ℕ) → m ≤ n → (run_of q h m).outcome ≡ T.Going
  pub bounded : (m : ℕ) → m ≤ n → live_cells (run_of q h m) ≤ cap
  pub traces : l.trace ≡ trace
  pub polls : l.polls ≡ length h.polls
  pub made : IsMadeRun (run_of q h n)

-- what one step came to, from s: the cells are those of the next state; one that has too many, or is over without a poll, adds no bytes
abbrev pub MadeSo : Names → (cap : ℕ) → Result Made NoMemory → Loop → (old new : Text) → States → Option States → Type 0
MadeSo names cap (Err e) l old new s o = Unit {0}
MadeSo names cap (Ok m) l old new s None = Unit {0}
MadeSo names cap (Ok (M.On cells)) l old new s (Some t) = Stands names l new t × (cells ≡ live_cells t) × (cells ≤ cap)
MadeSo names cap (Ok (M.Full cells)) l old new s (Some t) = (new ≡ old) × (cells ≡ live_cells t) × (cap < cells)
MadeSo names cap (Ok (M.Over outcome)) l old new s (Some t) = (new ≡ old) × (t ≡ ends (outcome_of names outcome) s)
MadeSo names cap (Ok (M.Broke fault f)) l old new s (Some t) = Breaks names fault f l.trace new s t

-- a step that broke took a poll, so that one was there
abbrev pub MadePolls : Made → Loop → Type 0
MadePolls (M.Broke fault f) l = 0 < length l.turns.polls.now
MadePolls m l = Unit {0}

-- where a step goes on, the loop is as before in what it keeps
abbrev pub MadeSteady : Result Made NoMemory → Loop → Type 0
MadeSteady (Ok (M.On cells)) l = IsSteady l
MadeSteady _ l = Unit {0}

-- so much of what waited was written that this is left to be written
abbrev pub Drained : (told now : Option Text) → (sent old new : Text) → Type 0
Drained told now sent old new = (front : Text) × (now ≡ append_known told front) × (front ++ new ≡ sent ++ old)

-- what goes out behind this where the end is due
abbrev pub with_last : Table → (trace : Bool) → (due : Ended) → (whole : Text) → Text
with_last table trace due whole = whole ++ last_of (in_table table) trace due

-- all was written and the end is the one that was due, or the sink failed; or memory was wanting for the last line of a trace
abbrev pub EndsSo : Table → (trace : Bool) → (due ended : Ended) → (out whole : Text) → Type 0
EndsSo table trace due ended out whole =
    (IsInTable table due × (ended ≡ due) × (out ≡ with_last table trace due whole)) ⊎ ((IsInTable table due × (ended ≡ E.WriteFault) × IsCutShort out (with_last table trace due whole)) ⊎ ((ended ≡ E.Memory) × (trace ≡ true) × IsPrefix out whole))

-- the loop stands as the first state of q's run, which is never stuck
pub record Begins (names : Names) (q : Program) (h : History) (l : Loop) (cells : ℕ) : Type 0 where
  pub fits : Fits names l
  pub program : program_in names l ≡ q
  pub never_stuck : NeverStuck q h
  pub stands : Stands names l [] (run_of q h 0)
  pub cells_are : cells ≡ live_cells (run_of q h 0)
  pub polls : l.polls ≡ length h.polls
  pub made : IsMadeRun (run_of q h 0)

-- the same by two spellings, which differ at each name that the table does not have; the functions of the host that its code asks for are there
pub record BeginsTwice (table : Table) (there : List (Text × ℕ)) (l : Loop) (cells : ℕ) : Type 0 where
  pub names : Names
  pub other : Names
  pub others : AreOthers table names other
  pub program : Program
  pub history : History
  pub spells : Spells table names
  pub spells_other : Spells table other
  pub hosts : HasHosts there program
  pub begins : (answers : List ℤ) → Begins names program (with_answers history answers) l cells
  pub begins_other : (answers : List ℤ) → Begins other program (with_answers history answers) l cells

-- the loop stands as the first state of the program
pub record Opened (names : Names) (p : GProgram.Program) (h : History) (l : Loop) : Type 0 where
  pub fits : Fits names l
  pub items : program_in names l ≡ map (item_of names) p.items.items
  pub stands : Stands names l [] (opening (map (item_of names) p.items.items) CallMain h)
  pub polls : l.polls ≡ length h.polls
