-- The answer of a command line: why it ended, and what it said of that.
use Rattle.std.specs.Prelude.{◌≡◌, ℕ, ℤ, ◌==◌, ◌<◌, ◌≤◌, Bool, false, if◌then◌else◌, List, [], ◌++◌, length, Option, None, Some, ◌⊎◌, codes, decimal}
use Rattle.std.specs.Fmt.{signed_decimal}
use Rattle.cpc_base.specs.Bytes.{Text}
use Rattle.cpc_base.specs.Outside.{Files, Rose}
use Rattle.cpc_base.specs.declared.stop.Dialect.{Dialect}
use Rattle.cpc_base.specs.declared.stop.Dialect.TheVariants.{Cpc, Event}
use Rattle.cpc_tree.specs.Located.{LProgram, bare}
use Rattle.cpc_tree.specs.Texts.{fault_text}
use Rattle.cpc_tree.specs.Trace as T
use Rattle.cpc_meaning.specs.Runs.{SameRuns, Within}
use Rattle.cpc_base.specs.declared.stop.Stop.{Stop}
use Rattle.cpc_base.specs.declared.stop.Stop.TheVariants as W
use Rattle.cpc_history.specs.declared.read.HistoryFault.{HistoryFault}
use Rattle.cpc_translate.specs.declared.fault.TextFault.{TextFault}
use Rattle.cpc_cli_command.specs.Commands.{Command, Check, Exec, Options, Sample, Translate, Run, command_of}
use Rattle.cpc_check.specs.Accepted.{Accepts}
use Rattle.cpc_translate.specs.Refusals.{IsTextFault}
use Rattle.cpc_translate.specs.Promised.{IsPrint, NoLeak, Shape, converted}
use Rattle.cpc_translate.specs.Faults as F
use Rattle.cpc_sample.specs.Sample.{sample_text}
use Rattle.cpc_run_workers.specs.Reports.{IsCutShort}
use Rattle.cpc_cli.specs.Asked.{AsksUpTo, is_early, words_end}
use Rattle.cpc_cli.specs.Command.{Host, InFile, IsMade, IsRun, Labels, Origin, Source, bytes_line, events_source, history_named, labels_in, limit_of, made_source, name_of, sample_options, source_of, text_limit, threads_source}
use Rattle.cpc_cli.specs.Ran.{FileHas, HasHosts, IsAnswered, IsPartOf, LacksHost, NoSteps, NotTold, RanInPart, RanWhole, TellsPolls, history_with}
use Rattle.cpc_cli.specs.declared.answer.Role.{Role}
use Rattle.cpc_cli.specs.declared.answer.Role.TheVariants as R
use Rattle.cpc_cli.specs.declared.answer.Report.{Report}
use Rattle.cpc_cli.specs.declared.answer.Outcome.{Outcome}
use Rattle.cpc_cli.specs.declared.answer.Outcome.TheVariants.{Ended, Exited, Failed, HistoryEnded, BadHistory, Stopped, Full, Accepted, Translated}
use Rattle.cpc_cli.specs.declared.answer.End.{End}
use Rattle.cpc_cli.specs.declared.answer.End.TheVariants.{Done, Usage, Refused, Unread, Unwritten, Memory, TooLong, BadLine, NoHost}

-- the counts of faults of the shelf, by name, and of the two sinks; and how far each file was asked for
pub record Counts : Type 0 where
  pub shelf : Text → ℕ
  pub asked : Text → ℕ
  pub out : ℕ
  pub err : ℕ

-- which counts rose in a call, and that none was asked for beyond such ends
pub record Rises : Type 1 where
  pub shelf : Text → Type 0
  pub asked : (ends : Text → ℕ) → Type 0
  pub out : Type 0
  pub err : Type 0

abbrev pub rises : (before now : Counts) → Rises
rises before now = record {
  shelf = λ name. Rose (before.shelf name) (now.shelf name);
  asked = AsksUpTo before.asked now.asked;
  out = Rose before.out now.out;
  err = Rose before.err now.err;
}

-- ---- what was made

-- nothing was printed or run
pub record NoRun (report : Report) : Type 0 where
  pub printed : report.printed.items ≡ []
  pub steps : report.steps ≡ 0
  pub cells : report.cells ≡ 0

-- no run began, and nothing was written
pub record Nothing (report : Report) (out : Text) : Type 0 where
  pub no_run : NoRun report
  pub silent : out ≡ []

-- a text is written as the printer writes an event program, and accepted as that
pub record IsPrinted (text : Text) (q : LProgram) : Type 0 where
  pub print : IsPrint text (bare q)
  pub accepts : Accepts Event text q

-- the printed text is that of q, and nothing was run
pub record Printed (q : LProgram) (report : Report) : Type 0 where
  pub printed : IsPrinted report.printed.items q
  pub steps : report.steps ≡ 0
  pub cells : report.cells ≡ 0

-- ---- the text of a command

-- a text has P; one of a file is within its limit
abbrev pub TextIn : (told : Option Files) → Origin → Dialect → (Text → Type 0) → Type 0
TextIn told (InFile name) dialect P = FileHas told name (λ text. (length text ≤ text_limit dialect) × P text)
TextIn told (IsMade text) dialect P = P text

abbrev pub TextHas : (told : Option Files) → Source → (Text → Type 0) → Type 0
TextHas told source P = TextIn told source.origin source.dialect P

-- the file of a text was not read
abbrev pub UnreadIn : Origin → (unread : Text → Type 0) → Type 0
UnreadIn (InFile name) unread = unread name
UnreadIn (IsMade text) unread = ⊥

-- the file of a text is too long
abbrev pub LongIn : (told : Option Files) → Origin → Dialect → Type 0
LongIn told (InFile name) dialect = FileHas told name (λ bytes. text_limit dialect < length bytes)
LongIn told (IsMade text) dialect = ⊥

-- a text is accepted as a program with P
abbrev pub AcceptedAs : (told : Option Files) → Source → (LProgram → Type 0) → Type 0
AcceptedAs told source P = TextHas told source (λ text. (p : LProgram) × Accepts source.dialect text p × P p)

-- a text has a fault, or is not there or too long
abbrev pub NotAccepted : (told : Option Files) → Source → (unread : Text → Type 0) → End → Type 0
NotAccepted told source unread (Refused fault) = TextHas told source (λ text. IsTextFault source.dialect text fault)
NotAccepted told source unread (Unread R.Text) = UnreadIn source.origin unread
NotAccepted told source unread (TooLong R.Text) = LongIn told source.origin source.dialect
NotAccepted told source unread Memory = Unit {0}
NotAccepted told source unread _ = ⊥

-- q is the event program of p and has the shape of one, and the event runs of q are the threaded runs of p, within the cost, with no frames left over
pub record IsTranslated (p q : LProgram) : Type 0 where
  pub event : bare q ≡ converted (bare p)
  pub same : SameRuns (bare p) (bare q)
  pub within : Within (bare p) (bare q)
  pub shape : Shape (bare p) (bare q)
  pub no_leak : NoLeak (bare p) (bare q)

-- a text has a fault, or memory was wanting
abbrev pub RefusesText : (text : Text) → End → Type 0
RefusesText text (Refused fault) = IsTextFault Cpc text fault
RefusesText text Memory = Unit {0}
RefusesText text _ = ⊥

-- the program that a command runs: `run` and `sample` that of the printed text, a program with the same runs as the accepted one; `exec` the
-- accepted one itself, and nothing is printed
abbrev pub Takes : (told : Option Files) → Command → Report → LProgram → Type 0
Takes told (Run file options text) report q = IsPrinted report.printed.items q × AcceptedAs told (threads_source file) (λ p. IsTranslated p q)
Takes told (Exec file options) report q = (report.printed.items ≡ []) × TextHas told (events_source file) (λ text. Accepts Event text q)
Takes told (Sample number) report q = IsPrinted report.printed.items q × AcceptedAs told (made_source (sample_text number)) (λ p. IsTranslated p q)
Takes told (Translate file) report q = ⊥
Takes told (Check file) report q = ⊥

-- ---- what each command does

-- a command ran its program, told the polls of its history and given these answers of the host, and it ended so
pub record Runs (host : Host) (told : Option Files) (command : Command) (options : Options) (text : Bool) (report : Report) (out : Text) (outcome : Outcome) : Type 0 where
  pub program : LProgram
  pub takes : Takes told command report program
  pub hosts : HasHosts host.there (bare program)
  pub polls : List T.Told
  pub tells : TellsPolls told options.history polls
  pub answers : List ℤ
  pub answered : IsAnswered host (bare program) (history_with options polls answers) report.steps
  pub ran : RanWhole (bare program) (history_with options polls answers) options text report out outcome

-- the same, broken off by a sink or by want of memory
pub record RunsInPart (host : Host) (told : Option Files) (command : Command) (options : Options) (text : Bool) (report : Report) (out : Text) (end : End) : Type 0 where
  pub program : LProgram
  pub takes : Takes told command report program
  pub hosts : HasHosts host.there (bare program)
  pub polls : List T.Told
  pub tells : TellsPolls told options.history polls
  pub answers : List ℤ
  pub answered : IsAnswered host (bare program) (history_with options polls answers) report.steps
  pub ran : RanInPart (bare program) (history_with options polls answers) options text report out end

-- the command's work, done: `run` and `exec` run a program, `sample` one that it makes, and tells the length of its text, `translate` writes the printed text, `check` says that the text is accepted
abbrev pub Does : Host → Option Files → Command → Report → Text → Outcome → Type 0
Does host told (Run file options text) report out outcome = Runs host told (Run file options text) options text report out outcome
Does host told (Exec file options) report out outcome = Runs host told (Exec file options) options false report out outcome
Does host told (Sample number) report out outcome =
    (front : Text) × Runs host told (Sample number) sample_options false report front outcome × (out ≡ front ++ bytes_line number)
Does host told (Translate file) report out Translated = (q : LProgram) × Printed q report × (out ≡ report.printed.items) × AcceptedAs told (threads_source file) (λ p. IsTranslated p q)
Does host told (Translate file) report out _ = ⊥
Does host told (Check file) report out Accepted = NoRun report × (out ≡ codes "accepted\n") × AcceptedAs told (threads_source file) (λ p. Unit {0})
Does host told (Check file) report out _ = ⊥

-- the command's work, broken off by a sink or by want of memory
abbrev pub DoesInPart : Host → Option Files → Command → Report → Text → End → Type 0
DoesInPart host told (Run file options text) report out end = RunsInPart host told (Run file options text) options text report out end
DoesInPart host told (Exec file options) report out end = RunsInPart host told (Exec file options) options false report out end
DoesInPart host told (Sample number) report out end = RunsInPart host told (Sample number) sample_options false report out end
    ⊎ ((outcome : Outcome) × (front : Text) × Runs host told (Sample number) sample_options false report front outcome × IsPartOf end out (front ++ bytes_line number))
DoesInPart host told (Translate file) report out end = (q : LProgram) × Printed q report × IsPartOf end out report.printed.items × AcceptedAs told (threads_source file) (λ p. IsTranslated p q)
DoesInPart host told (Check file) report out end = NoRun report × IsPartOf end out (codes "accepted\n") × AcceptedAs told (threads_source file) (λ p. Unit {0})

-- ---- why a call ended

-- the end where a text is not read
abbrev pub unread_end : Stop TextFault → End
unread_end W.Memory = Memory
unread_end (W.Fault fault) = Refused fault

-- The command did its work, or its work was broken off; or its text was not accepted; or its text was, and a function of the host is missing, or its
-- history was not told.
pub data EndedIn (host : Host) (told : Option Files) (command : Command) (unread : Text → Type 0) (unwritten : Type 0) (report : Report) (out : Text) : End → Type 0 where
  did : (outcome : Outcome) → Does host told command report out outcome → EndedIn host told command unread unwritten report out (Done outcome)
  not_begun : (end : End) → NotAccepted told (source_of command) unread end → Nothing report out → EndedIn host told command unread unwritten report out end
  lacks_host : (end : End) (q : LProgram) → Takes told command report q → LacksHost host.there (bare q) end → NoSteps report → out ≡ []
      → EndedIn host told command unread unwritten report out end
  not_told : (end : End) (q : LProgram) → Takes told command report q → HasHosts host.there (bare q) → NotTold told (history_named command) unread end → NoSteps report → out ≡ []
      → EndedIn host told command unread unwritten report out end
  unwritten_in : unwritten → DoesInPart host told command report out Unwritten → EndedIn host told command unread unwritten report out Unwritten
  starved_in : DoesInPart host told command report out Memory → EndedIn host told command unread unwritten report out Memory

-- the words are refused, or there was no memory to read them, or they ask for a command, which ended so
pub data IsEnd (words : List Text) (host : Host) (told : Option Files) (unread : Text → Type 0) (unwritten : Type 0) (report : Report) (out : Text) : End → Type 0 where
  misused : command_of words ≡ None → Nothing report out → IsEnd words host told unread unwritten report out Usage
  starved : Nothing report out → IsEnd words host told unread unwritten report out Memory
  performed : (command : Command) {end : End} → command_of words ≡ Some command → EndedIn host told command unread unwritten report out end
      → IsEnd words host told unread unwritten report out end

-- ---- what a call says of its end

abbrev pub status_of : End → ℕ
status_of (Done (Ended waiting)) = if waiting == 0 then 0 else 14
status_of (Done (Exited number)) = 0
status_of (Done (Failed fault function)) = 1
status_of (Done (HistoryEnded taken)) = 5
status_of (Done (BadHistory poll section)) = 4
status_of (Done (Stopped n)) = 6
status_of (Done (Full cap asked)) = 7
status_of (Done Accepted) = 0
status_of (Done Translated) = 0
status_of Usage = 2
status_of (Refused fault) = 3
status_of (Unread role) = 8
status_of Unwritten = 9
status_of Memory = 11
status_of (TooLong role) = 13
status_of (BadLine fault) = 4
status_of (NoHost name) = 12

-- the line on how a command's work stands
abbrev pub outcome_line : Outcome → Text
outcome_line (Ended waiting) = if waiting == 0 then [] else codes "ended with " ++ (decimal waiting ++ codes " waiting\n")
outcome_line (Exited number) = codes "exit " ++ (signed_decimal number ++ codes "\n")
outcome_line (Failed fault function) = codes "fault " ++ fault_text fault ++ codes " in " ++ function.items ++ codes "\n"
outcome_line (HistoryEnded taken) = codes "history ended after " ++ (decimal taken ++ codes " polls\n")
outcome_line (BadHistory poll section) = codes "history poll " ++ (decimal poll ++ (codes " section " ++ (decimal section ++ codes "\n")))
outcome_line (Stopped n) = codes "stopped after " ++ (decimal n ++ codes " steps\n")
outcome_line (Full cap asked) = codes "full: cap " ++ (decimal cap ++ (codes ", asked " ++ (decimal asked ++ codes "\n")))
outcome_line Accepted = []
outcome_line Translated = []

-- what is wrong with a line of a history, by its number
abbrev pub wrong_text : ℕ → Text
wrong_text number = if number == 1 then codes "form" else codes "number"

-- the line on `err`, by the names of the files
abbrev pub line_of : Labels → End → Text
line_of labels (Done outcome) = outcome_line outcome
line_of labels Usage = codes "usage: cpc check, translate, run or exec FILE with options, or cpc sample N\n"
line_of labels (Refused fault) = codes "refused " ++ (decimal (F.place_of fault).line ++ (codes ":" ++ (decimal (F.place_of fault).column
    ++ (codes " " ++ (F.stage_of fault ++ (codes " " ++ (decimal (F.number_of fault) ++ (codes " " ++ (F.name_of fault ++ codes "\n")))))))))
line_of labels (Unread role) = codes "read fault: " ++ (name_of labels role ++ codes "\n")
line_of labels Unwritten = codes "write fault\n"
line_of labels Memory = codes "no memory\n"
line_of labels (TooLong role) = codes "too long: " ++ (name_of labels role ++ (codes " limit " ++ (decimal (limit_of labels role) ++ codes "\n")))
line_of labels (BadLine fault) = codes "history line " ++ (decimal fault.line ++ (codes " " ++ (wrong_text fault.number ++ codes "\n")))
line_of labels (NoHost name) = codes "no host " ++ (name.items ++ codes "\n")

-- the line went out with its status, or `err` failed in it and has not taken all of it
abbrev pub Said : (line : Text) → (due : ℕ) → (failed : Type 0) → (status : ℕ) → (err : Text) → Type 0
Said line due failed status err = ((status ≡ due) × (err ≡ line)) ⊎ ((status ≡ 9) × IsCutShort err line × failed)

-- ---- the answer

-- there is an end with its cause, what was asked for up to then, and what was said of it
abbrev pub Answer : List Text → Host → Option Files → Rises → Report → (out err : Text) → Type 0
Answer words host told rose report out err =
    (end : End) × IsEnd words host told rose.shelf rose.out report out end × rose.asked (words_end words (is_early end)) × Said (line_of (labels_in words) end) (status_of end) rose.err report.status err
