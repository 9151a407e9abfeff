-- What is due to a command line by its words and the files alone: the answer where nothing fails and memory is ample.
use Rattle.std.specs.Prelude.{◌≡◌, ℕ, ℤ, ◌++◌, false, ◌<◌, ◌≤◌, Bool, List, [], length, Option, None, Some, codes}
use Rattle.cpc_base.specs.Bytes.{Text}
use Rattle.cpc_base.specs.declared.stop.Dialect.{Dialect}
use Rattle.cpc_base.specs.Outside.{Files}
use Rattle.cpc_tree.specs.Located.{LProgram, bare}
use Rattle.cpc_tree.specs.Texts.{Polls, read_history}
use Rattle.cpc_tree.specs.Trace as T
use Rattle.cpc_check.specs.Accepted.{Accepts}
use Rattle.cpc_history.specs.Reading.{IsFaultOf}
use Rattle.cpc_history.specs.declared.read.HistoryFault.{HistoryFault}
use Rattle.cpc_translate.specs.Refusals.{IsTextFault}
use Rattle.cpc_translate.specs.declared.fault.TextFault.{TextFault}
use Rattle.cpc_cli_command.specs.Commands.{Command, Check, Exec, Options, Sample, Translate, Run, command_of}
use Rattle.cpc_cli.specs.Command.{Host, InFile, IsMade, IsRun, Origin, Source, bytes_line, events_source, history_limit, history_named, labels_in, made_source, sample_options, source_of, text_limit, threads_source}
use Rattle.cpc_sample.specs.Sample.{sample_text}
use Rattle.cpc_run_workers.specs.Hosts.{missing_of}
use Rattle.cpc_cli.specs.Ran.{HasHosts, IsAnswered, StandsSo, history_with, shown, stop_in}
use Rattle.cpc_cli.specs.Answer.{IsPrinted, IsTranslated, Rises, line_of, status_of}
use Rattle.cpc_cli.specs.declared.answer.Role.TheVariants as R
use Rattle.cpc_cli.specs.declared.answer.Outcome.{Outcome}
use Rattle.cpc_cli.specs.declared.answer.Outcome.TheVariants.{Accepted, Translated}
use Rattle.cpc_cli.specs.declared.answer.End.{End}
use Rattle.cpc_cli.specs.declared.answer.End.TheVariants.{Done, Usage, Refused, Unread, TooLong, BadLine, NoHost}

-- the text of a source: its file is there and within its limit, or the command makes it
abbrev pub IsTextIn : Files → Origin → Dialect → Text → Type 0
IsTextIn files (InFile name) dialect text = (files name ≡ Some text) × (length text ≤ text_limit dialect)
IsTextIn files (IsMade made) dialect text = text ≡ made

abbrev pub IsText : Files → Source → Text → Type 0
IsText files source text = IsTextIn files source.origin source.dialect text

-- the same, and it is accepted as this program
pub record IsProgram (files : Files) (source : Source) (p : LProgram) : Type 0 where
  pub text : Text
  pub is_text : IsText files source text
  pub accepts : Accepts source.dialect text p

-- the program that a command runs, and the printed text of it
abbrev pub Given : Files → Command → (printed : Text) → LProgram → Type 0
Given files (Run file options text) printed q = IsPrinted printed q × (p : LProgram) × IsProgram files (threads_source file) p × IsTranslated p q
Given files (Exec file options) printed q = (printed ≡ []) × IsProgram files (events_source file) q
Given files (Sample number) printed q = IsPrinted printed q × (p : LProgram) × IsProgram files (made_source (sample_text number)) p × IsTranslated p q
Given files (Translate file) printed q = ⊥
Given files (Check file) printed q = ⊥

-- the polls of the history's file, where one is named, and none else
abbrev pub ArePolls : Files → (history : Option Text) → List T.Told → Type 0
ArePolls files None polls = polls ≡ []
ArePolls files (Some name) polls = (bytes : Text) × (files name ≡ Some bytes) × (length bytes ≤ history_limit) × (read_history bytes ≡ Polls polls)

-- the end tells that the function of the host of this name is missing
abbrev pub IsNoHost : (name : Text) → End → Type 0
IsNoHost name (NoHost given) = name ≡ given.items
IsNoHost name _ = ⊥

-- the program that a command runs, and all functions of the host that it declares are there
abbrev pub CanRun : Host → Files → Command → (printed : Text) → LProgram → Type 0
CanRun host files command printed q = Given files command printed q × HasHosts host.there (bare q)

-- the end and the bytes of `out` that are due
pub data Due (host : Host) (files : Files) (words : List Text) : End → Text → Type 0 where
  for_usage : command_of words ≡ None → Due host files words Usage []
  -- the text
  for_absent : (command : Command) (name : Text) → command_of words ≡ Some command → (source_of command).origin ≡ InFile name → files name ≡ None → Due host files words (Unread R.Text) []
  for_too_long : (command : Command) (name text : Text) → command_of words ≡ Some command → (source_of command).origin ≡ InFile name → files name ≡ Some text
      → text_limit (source_of command).dialect < length text → Due host files words (TooLong R.Text) []
  for_refused : (command : Command) (text : Text) (fault : TextFault) → command_of words ≡ Some command → IsText files (source_of command) text
      → IsTextFault (source_of command).dialect text fault → Due host files words (Refused fault) []
  -- the functions of the host, once the text is taken
  for_no_host : (command : Command) (printed name : Text) (q : LProgram) (end : End) → command_of words ≡ Some command → Given files command printed q
      → missing_of host.there (bare q) ≡ Some name → IsNoHost name end → Due host files words end []
  -- the history, once they are there
  for_no_history : (command : Command) (printed name : Text) (q : LProgram) → command_of words ≡ Some command → CanRun host files command printed q
      → history_named command ≡ Some name → files name ≡ None → Due host files words (Unread R.History) []
  for_long_history : (command : Command) (printed name bytes : Text) (q : LProgram) → command_of words ≡ Some command → CanRun host files command printed q
      → history_named command ≡ Some name → files name ≡ Some bytes → history_limit < length bytes → Due host files words (TooLong R.History) []
  for_bad_line : (command : Command) (printed name bytes : Text) (q : LProgram) (fault : HistoryFault) → command_of words ≡ Some command → CanRun host files command printed q
      → history_named command ≡ Some name → files name ≡ Some bytes → length bytes ≤ history_limit → IsFaultOf fault (read_history bytes) → Due host files words (BadLine fault) []
  -- the work
  for_check : (file : Text) (p : LProgram) → command_of words ≡ Some (Check file) → IsProgram files (threads_source file) p
      → Due host files words (Done Accepted) (codes "accepted\n")
  for_translate : (file printed : Text) (p q : LProgram) → command_of words ≡ Some (Translate file) → IsProgram files (threads_source file) p
      → IsPrinted printed q → IsTranslated p q → Due host files words (Done Translated) printed
  for_run : (command : Command) (options : Options) (text : Bool) (printed : Text) (q : LProgram) (polls : List T.Told) (answers : List ℤ) (n : ℕ) (outcome : Outcome)
      → command_of words ≡ Some command → IsRun command options text → CanRun host files command printed q → ArePolls files options.history polls
      → IsAnswered host (bare q) (history_with options polls answers) n → StandsSo (bare q) (history_with options polls answers) options.steps options.cells n outcome
      → Due host files words (Done outcome) (shown options.trace text printed (bare q) (history_with options polls answers) n (stop_in outcome))
  for_sample : (number : ℕ) (printed : Text) (q : LProgram) (answers : List ℤ) (n : ℕ) (outcome : Outcome)
      → command_of words ≡ Some (Sample number) → CanRun host files (Sample number) printed q
      → IsAnswered host (bare q) (history_with sample_options [] answers) n
      → StandsSo (bare q) (history_with sample_options [] answers) sample_options.steps sample_options.cells n outcome
      → Due host files words (Done outcome) (shown false false printed (bare q) (history_with sample_options [] answers) n (stop_in outcome) ++ bytes_line number)

-- no count rose, but those of names that are absent
pub record NoneRose (files : Files) (rose : Rises) : Type 0 where
  pub shelf : (name text : Text) → files name ≡ Some text → ¬ rose.shelf name
  pub out : ¬ rose.out
  pub err : ¬ rose.err

-- what is due was given
pub record Gives (host : Host) (files : Files) (words : List Text) (status : ℕ) (out err : Text) : Type 0 where
  pub end : End
  pub due : Due host files words end out
  pub its_status : status ≡ status_of end
  pub its_line : err ≡ line_of (labels_in words) end
