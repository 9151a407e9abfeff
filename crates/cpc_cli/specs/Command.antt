-- The files of a command, what it takes as its text, and the functions of the host that its run may call.
use Rattle.std.specs.Prelude.{◌≡◌, ℕ, ℤ, Bool, false, List, [], ◌++◌, length, Option, None, Some, codes, decimal, unwrap_or}
use Rattle.std.specs.Option.{option_map_or}
use Rattle.cpc_base.specs.Bytes.{Text}
use Rattle.cpc_base.specs.declared.stop.Dialect.{Dialect}
use Rattle.cpc_base.specs.declared.stop.Dialect.TheVariants.{Cpc, Event}
use Rattle.cpc_cli_command.specs.Commands.{Command, Check, Exec, Options, Sample, Translate, Run, command_of}
use Rattle.cpc_cli_command.specs.Usage.{defaults}
use Rattle.cpc_sample.specs.Sample.{sample_text}
use Rattle.cpc_cli.specs.declared.answer.Role.{Role}
use Rattle.cpc_cli.specs.declared.answer.Role.TheVariants as R

-- the most bytes of a text
abbrev pub text_limit : Dialect → ℕ
text_limit Cpc = 262144
text_limit Event = 16777216

-- the most bytes of a history
abbrev pub history_limit : ℕ
history_limit = 16777216

-- where a text comes from: it stands in a file, or the command makes it
pub data Origin : Type 0 where
  InFile : (name : Text) → Origin
  IsMade : (text : Text) → Origin

-- the name of the file, where there is one
abbrev pub file_named : Origin → Option Text
file_named (InFile name) = Some name
file_named (IsMade text) = None

-- a text that a command takes: where it comes from, and how it is read
pub record Source : Type 0 where
  pub origin : Origin
  pub dialect : Dialect

-- the text of a file
abbrev pub file_source : Dialect → Text → Source
file_source dialect file = record { origin = InFile file; dialect = dialect }

-- one of threads
abbrev pub threads_source : Text → Source
threads_source file = file_source Cpc file

-- one of events
abbrev pub events_source : Text → Source
events_source file = file_source Event file

-- a text of threads that the command makes
abbrev pub made_source : Text → Source
made_source text = record { origin = IsMade text; dialect = Cpc }

abbrev pub source_of : Command → Source
source_of (Check file) = threads_source file
source_of (Translate file) = threads_source file
source_of (Run file options text) = threads_source file
source_of (Exec file options) = events_source file
source_of (Sample number) = made_source (sample_text number)

-- the history that a command names, if it names one
abbrev pub history_named : Command → Option Text
history_named (Check file) = None
history_named (Translate file) = None
history_named (Run file options text) = options.history
history_named (Exec file options) = options.history
history_named (Sample number) = None

-- the file that a command reads, if it reads one
abbrev pub named : Command → Role → Option Text
named command R.Text = file_named (source_of command).origin
named command R.History = history_named command

-- the command runs a program with these options; the printed text is wanted before what it shows, or not
pub data IsRun : Command → Options → (text : Bool) → Type 0 where
  by_run : (file : Text) (options : Options) (text : Bool) → IsRun (Run file options text) options text
  by_exec : (file : Text) (options : Options) → IsRun (Exec file options) options false

-- the options of a sample's run: those of words that give none, but no workers
abbrev pub sample_options : Options
sample_options = record defaults { workers = 0 }

abbrev pub length_line : (bytes : ℕ) → Text
length_line bytes = codes "bytes " ++ (decimal bytes ++ codes "\n")

-- the line behind the output of a sample's run: the length of the sample's text
abbrev pub bytes_line : (number : ℕ) → Text
bytes_line number = length_line (length (sample_text number))

-- ---- the host

-- the functions of the host: their names with arities, in order, and the answers that each may give to arguments
pub record Host : Type 1 where
  pub there : List (Text × ℕ)
  pub allows : Text → List ℤ → ℤ → Type 0

abbrev pub host_of : (there : List (Text × ℕ)) → (allows : Text → List ℤ → ℤ → Type 0) → Host
host_of there allows = record { there = there; allows = allows }

-- no function of the host is there
abbrev pub no_host : Host
no_host = host_of [] (λ name arguments answer. ⊥)

-- ---- what a line says of files

-- the names of the files, and the most bytes of the text
pub record Labels : Type 0 where
  pub text : Text
  pub history : Text
  pub limit : ℕ

abbrev pub name_of : Labels → Role → Text
name_of labels R.Text = labels.text
name_of labels R.History = labels.history

abbrev pub limit_of : Labels → Role → ℕ
limit_of labels R.Text = labels.limit
limit_of labels R.History = history_limit

abbrev pub no_labels : Labels
no_labels = record { text = []; history = []; limit = 0 }

abbrev pub labels_of : Command → Labels
labels_of command = record { text = unwrap_or (file_named (source_of command).origin) []; history = unwrap_or (history_named command) []; limit = text_limit (source_of command).dialect }

-- those of the command that the words ask for
abbrev pub labels_in : List Text → Labels
labels_in words = option_map_or labels_of (command_of words) no_labels

-- the words ask for a command that has P
abbrev pub Asks : (words : List Text) → (Command → Type 0) → Type 0
Asks words P = (command : Command) × (command_of words ≡ Some command) × P command
