-- How a run came to its end: which history it was told, what hosts answered, how it stands, and what it shows.
use Rattle.std.specs.Prelude.{◌≡◌, ℕ, ℤ, suc, ◌+◌, ◌<◌, ◌≤◌, Bool, true, false, List, [], ◌++◌, length, Option, None, Some, ◌⊎◌, codes}
use Rattle.cpc_base.specs.Bytes.{Text}
use Rattle.cpc_base.specs.Outside.{Files, WhereTold}
use Rattle.cpc_tree.specs.Syntax.{Program}
use Rattle.cpc_tree.specs.Trace as T
use Rattle.cpc_tree.specs.Texts.{Stop, Over, AtSteps, AtCells, Polls, output, read_history}
use Rattle.cpc_meaning.specs.Events.{event}
use Rattle.cpc_meaning.specs.History.{History}
use Rattle.cpc_meaning.specs.Runs.{Full as IsAbove, live_cells}
use Rattle.cpc_history.specs.Reading.{IsFaultOf}
use Rattle.cpc_run_workers.specs.Hosts.{HostsMeet, answers_of, missing_of}
use Rattle.cpc_run_workers.specs.Reports.{IsCutShort, IsPrefix}
use Rattle.cpc_run_shown.specs.Shown.{traced}
use Rattle.cpc_cli_command.specs.Commands.{Options}
use Rattle.cpc_cli.specs.Command.{Host, history_limit}
use Rattle.cpc_cli.specs.declared.answer.Role.TheVariants as R
use Rattle.cpc_cli.specs.declared.answer.Report.{Report}
use Rattle.cpc_cli.specs.declared.answer.Outcome.{Outcome}
use Rattle.cpc_cli.specs.declared.answer.Outcome.TheVariants.{Ended, Exited, Failed, HistoryEnded, BadHistory, Stopped, Full, Accepted, Translated}
use Rattle.cpc_cli.specs.declared.answer.End.{End}
use Rattle.cpc_cli.specs.declared.answer.End.TheVariants.{Done, Usage, Refused, Unread, Unwritten, Memory, TooLong, BadLine, NoHost}

-- ---- what a run is told

-- a file, where it is told, is there and has P
abbrev pub FileHas : (told : Option Files) → (name : Text) → (Text → Type 0) → Type 0
FileHas told name P = WhereTold told (λ files. (bytes : Text) × (files name ≡ Some bytes) × P bytes)

-- the polls are those of the history's file where one is named, and none else
abbrev pub TellsPolls : (told : Option Files) → (history : Option Text) → List T.Told → Type 0
TellsPolls told None polls = polls ≡ []
TellsPolls told (Some name) polls = FileHas told name (λ bytes. (length bytes ≤ history_limit) × (read_history bytes ≡ Polls polls))

-- a history is named, and its file was not read, or is too long, or has a line that is no poll; or memory was wanting
abbrev pub NotTold : (told : Option Files) → (history : Option Text) → (unread : Text → Type 0) → End → Type 0
NotTold told history unread (Unread R.History) = (name : Text) × (history ≡ Some name) × unread name
NotTold told history unread (TooLong R.History) = (name : Text) × (history ≡ Some name) × FileHas told name (λ bytes. history_limit < length bytes)
NotTold told history unread (BadLine fault) =
    (name : Text) × (history ≡ Some name) × FileHas told name (λ bytes. (length bytes ≤ history_limit) × IsFaultOf fault (read_history bytes))
NotTold told history unread Memory = Unit {0}
NotTold told history unread _ = ⊥

-- the history of a run with these options that is told these polls, and is given these answers by the host
abbrev pub history_with : Options → List T.Told → (answers : List ℤ) → History
history_with options polls answers = record { polls = polls; answers = answers; section_bound = options.section_steps }

-- ---- what the host answers

-- this function of the host is missing, and is told; or memory was wanting for its name
abbrev pub Lacks : (missing : Option Text) → End → Type 0
Lacks missing (NoHost name) = missing ≡ Some name.items
Lacks missing Memory = Unit {0}
Lacks missing _ = ⊥

-- a function of the host that q declares is not there, with its arity: the first by declaration is told
abbrev pub LacksHost : (there : List (Text × ℕ)) → (q : Program) → End → Type 0
LacksHost there q end = Lacks (missing_of there q) end

-- all functions of the host that q declares are there, with their arities
abbrev pub HasHosts : (there : List (Text × ℕ)) → (q : Program) → Type 0
HasHosts there q = missing_of there q ≡ None

-- the answers of the history are those that the marks of q's event run after n steps tell, in order, and each is one that the host may give
pub record IsAnswered (host : Host) (q : Program) (h : History) (n : ℕ) : Type 0 where
  pub answered : answers_of (event q h n).trace ≡ h.answers
  pub meets : HostsMeet host.allows (event q h n).trace

-- ---- how a run stands

-- no state of q's event run up to that after n steps has more live cells than the cap
abbrev pub StaysWithin : (q : Program) → History → (cap n : ℕ) → Type 0
StaysWithin q h cap n = (m : ℕ) → m ≤ n → live_cells (event q h m) ≤ cap

-- q's event run is over so after n steps, and not before, within the bound and the cap
pub record IsOver (q : Program) (h : History) (bound cap n : ℕ) (outcome : T.Outcome) : Type 0 where
  pub within : n ≤ bound
  pub fits : StaysWithin q h cap n
  pub over : (event q h n).outcome ≡ outcome
  pub first : (m : ℕ) → m < n → (event q h m).outcome ≡ T.Going

-- q's event run is not over after n steps, which are as many as the bound allows
pub record IsStopped (q : Program) (h : History) (bound cap n : ℕ) : Type 0 where
  pub at_bound : n ≡ bound
  pub fits : StaysWithin q h cap n
  pub going : (event q h n).outcome ≡ T.Going

-- q's event run is not over after n steps, fewer than the bound allows, and the next would leave m live cells, above the cap
pub record IsFull (q : Program) (h : History) (bound cap n m : ℕ) : Type 0 where
  pub within : n < bound
  pub fits : StaysWithin q h cap n
  pub above : IsAbove q h n cap
  pub asked : m ≡ live_cells (event q h (suc n))

-- at the start of q's event run there are m live cells, above the cap
pub record StartsFull (q : Program) (h : History) (cap n m : ℕ) : Type 0 where
  pub at_start : n ≡ 0
  pub above : cap < m
  pub asked : m ≡ live_cells (event q h 0)

-- of the polls of its history, q's event run has taken so many in n steps
abbrev pub TookPolls : (q : Program) → History → (n taken : ℕ) → Type 0
TookPolls q h n taken = length h.polls ≡ taken + length (event q h n).history.polls

-- the outcome of an event run
abbrev pub outcome_in : Outcome → Option T.Outcome
outcome_in (Ended waiting) = Some (T.Ended waiting)
outcome_in (Exited number) = Some (T.Exited number)
outcome_in (Failed fault function) = Some (T.Failed fault function.items)
outcome_in (HistoryEnded taken) = Some T.HistoryEnded
outcome_in (BadHistory poll section) = Some (T.BadHistory section)
outcome_in _ = None

-- how q's event run stands after n steps, within its bounds on steps and on live cells; polls are counted from 1
abbrev pub StandsSo : (q : Program) → History → (bound cap n : ℕ) → Outcome → Type 0
StandsSo q h bound cap n (Ended waiting) = IsOver q h bound cap n (T.Ended waiting)
StandsSo q h bound cap n (Exited number) = IsOver q h bound cap n (T.Exited number)
StandsSo q h bound cap n (Failed fault function) = IsOver q h bound cap n (T.Failed fault function.items)
StandsSo q h bound cap n (HistoryEnded taken) = IsOver q h bound cap n T.HistoryEnded × TookPolls q h n taken
StandsSo q h bound cap n (BadHistory poll section) = IsOver q h bound cap n (T.BadHistory section) × (taken : ℕ) × (poll ≡ suc taken) × TookPolls q h n taken
StandsSo q h bound cap n (Stopped m) = (m ≡ n) × IsStopped q h bound cap n
StandsSo q h bound cap n (Full c m) = (c ≡ cap) × (IsFull q h bound cap n m ⊎ StartsFull q h cap n m)
StandsSo q h bound cap n Accepted = ⊥
StandsSo q h bound cap n Translated = ⊥

-- ---- what a run shows

-- why a trace ends
abbrev pub stop_in : Outcome → Option Stop
stop_in (Ended waiting) = Some (Over (T.Ended waiting))
stop_in (Exited number) = Some (Over (T.Exited number))
stop_in (Failed fault function) = Some (Over (T.Failed fault function.items))
stop_in (HistoryEnded taken) = Some (Over T.HistoryEnded)
stop_in (BadHistory poll section) = Some (Over (T.BadHistory section))
stop_in (Stopped m) = Some AtSteps
stop_in (Full c m) = Some AtCells
stop_in Accepted = None
stop_in Translated = None

-- q's event run was broken off after n steps, as the bound allows, and was not over before
pub record IsBrokenOff (q : Program) (h : History) (bound n : ℕ) : Type 0 where
  pub within : n ≤ bound
  pub going : (m : ℕ) → m < n → (event q h m).outcome ≡ T.Going

-- q's event run was left for this after n steps, or was broken off
abbrev pub IsLeftBy : (q : Program) → History → (bound cap n : ℕ) → Option Stop → Type 0
IsLeftBy q h bound cap n (Some (Over outcome)) = IsOver q h bound cap n outcome
IsLeftBy q h bound cap n (Some AtSteps) = IsStopped q h bound cap n
IsLeftBy q h bound cap n (Some AtCells) = (m : ℕ) × (IsFull q h bound cap n m ⊎ StartsFull q h cap n m)
IsLeftBy q h bound cap n None = IsBrokenOff q h bound n

-- the trace of these marks, with its last line where the run was left for something; or their output alone
abbrev pub run_text : (trace : Bool) → Option Stop → List T.Mark → Text
run_text true last marks = traced last marks
run_text false last marks = output marks

-- what goes before that: the printed text and a line, where the text is wanted
abbrev pub heading : (text : Bool) → (printed : Text) → Text
heading true printed = printed ++ codes "/* run */\n"
heading false printed = []

-- all that q's event run shows after n steps, behind what goes before it
abbrev pub shown : (trace text : Bool) → (printed : Text) → (q : Program) → History → (n : ℕ) → Option Stop → Text
shown trace text printed q h n last = heading text printed ++ run_text trace last (event q h n).trace

-- ---- what is told of a run

-- the report tells the live cells of q's event run after its steps
abbrev pub HasCells : (q : Program) → History → Report → Type 0
HasCells q h report = report.cells ≡ live_cells (event q h report.steps)

-- no state of a run was made
pub record NoSteps (report : Report) : Type 0 where
  pub steps : report.steps ≡ 0
  pub cells : report.cells ≡ 0

-- the bytes are the first of the text; where the sink failed, not all of it
abbrev pub IsPartOf : End → (out text : Text) → Type 0
IsPartOf Unwritten out text = IsCutShort out text
IsPartOf _ out text = IsPrefix out text

-- no run was begun: the sink failed in what goes before it, or memory was wanting and no more than that was written
abbrev pub IsUnbegun : End → (before out : Text) → Type 0
IsUnbegun Unwritten before out = IsCutShort out before
IsUnbegun Memory before out = IsPrefix out before
IsUnbegun _ before out = ⊥

-- the report tells the live cells of q's event run after its steps; or it tells none, which is so where no run was begun
abbrev pub MayHaveCells : (q : Program) → History → Report → (unbegun : Type 0) → Type 0
MayHaveCells q h report unbegun = HasCells q h report ⊎ (NoSteps report × unbegun)

-- the first state of a run that was broken off keeps to the cap, unless the run was left there for its cells, or the sink failed before it
abbrev pub FirstFits : (q : Program) → History → (cap : ℕ) → (last : Option Stop) → (before out : Text) → Type 0
FirstFits q h cap last before out = (live_cells (event q h 0) ≤ cap) ⊎ ((last ≡ Some AtCells) ⊎ IsCutShort out before)

-- q's event run stands so after the report's steps, and the bytes are what it shows
pub record RanWhole (q : Program) (h : History) (options : Options) (text : Bool) (report : Report) (out : Text) (outcome : Outcome) : Type 0 where
  pub cells : HasCells q h report
  pub stands : StandsSo q h options.steps options.cells report.steps outcome
  pub whole : out ≡ shown options.trace text report.printed.items q h report.steps (stop_in outcome)

-- the bytes are a prefix of what q's event run shows after the report's steps; where a step was made, its states keep to the cap
pub record RanInPart (q : Program) (h : History) (options : Options) (text : Bool) (report : Report) (out : Text) (end : End) : Type 0 where
  pub cells : MayHaveCells q h report (IsUnbegun end (heading text report.printed.items) out)
  pub fits : 0 < report.steps → StaysWithin q h options.cells report.steps
  pub last : Option Stop
  pub left : IsLeftBy q h options.steps options.cells report.steps last
  pub first : FirstFits q h options.cells last (heading text report.printed.items) out
  pub part : IsPartOf end out (shown options.trace text report.printed.items q h report.steps last)

-- how a run ended: it stands so, and the bytes are what it shows; or a sink or memory failed, and they are a prefix of that
abbrev pub RanTo : (q : Program) → History → Options → (text : Bool) → Report → (unwritten : Type 0) → (out : Text) → End → Type 0
RanTo q h options text report unwritten out (Done outcome) = RanWhole q h options text report out outcome
RanTo q h options text report unwritten out Unwritten = unwritten × RanInPart q h options text report out Unwritten
RanTo q h options text report unwritten out Memory = RanInPart q h options text report out Memory
RanTo q h options text report unwritten out _ = ⊥

-- a line was put behind a run that ended so: all of it, or the sink failed in it, or memory was wanting for it
abbrev pub ClosedBy : (line : Text) → Outcome → (unwritten : Type 0) → (out : Text) → End → Type 0
ClosedBy line outcome unwritten out (Done last) = (last ≡ outcome) × (out ≡ line)
ClosedBy line outcome unwritten out Unwritten = unwritten × IsCutShort out line
ClosedBy line outcome unwritten out Memory = out ≡ []
ClosedBy line outcome unwritten out _ = ⊥

-- a run that was told these polls ended so, with answers of the host
pub record RanAnswered (host : Host) (q : Program) (polls : List T.Told) (options : Options) (text : Bool) (report : Report) (unwritten : Type 0) (out : Text) (end : End) : Type 0 where
  pub answers : List ℤ
  pub answered : IsAnswered host q (history_with options polls answers) report.steps
  pub ran : RanTo q (history_with options polls answers) options text report unwritten out end

-- how a run by a history's file ended: a function of the host is missing, or the history was not told, and no run began; or it ended so
abbrev pub RanTold : Host → (told : Option Files) → (q : Program) → Options → (text : Bool) → Report → (unread : Text → Type 0) → (unwritten : Type 0) → (out : Text) → End → Type 0
RanTold host told q options text report unread unwritten out end = (LacksHost host.there q end × NoSteps report × (out ≡ []))
    ⊎ (HasHosts host.there q × ((NotTold told options.history unread end × NoSteps report × (out ≡ [])) ⊎ ((polls : List T.Told) × TellsPolls told options.history polls × RanAnswered host q polls options text report unwritten out end)))
