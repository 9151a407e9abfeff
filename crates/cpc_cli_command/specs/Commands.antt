-- The command line of `cpc`, by clap's own words.
use Rattle.std.specs.Prelude.{◌≡◌, ℕ, Bool, true, false, List, [], ◌∷◌, Option, None, Some, if◌then◌else◌, codes, bytes_eq}
use Rattle.std.specs.Prelude.{fold, option_map, option_and_then}
use Rattle.std.specs.Option.{option_map_or}
use Rattle.clap.specs.Kinds.{Kinds}
use Rattle.clap.specs.Walk.{Row, Rule, first_of}
use Rattle.clap.specs.Simple.{App, new_app, new_rule, on_top, subcommand_of, with_rule, with_subcommand}
use Rattle.clap.specs.Faults.{fault_of}
use Rattle.clap.specs.declared.builder.command.Command.TheViews.{out-Command}
use Rattle.clap.specs.declared.builder.command.Command.{Command as Built}
use Rattle.clap.specs.declared.builder.action.ArgAction.TheVariants.{Set, SetTrue}
use Rattle.cpc_base.specs.Bytes.{Text}
use Rattle.cpc_cli_command.specs.Number.{cells_of, default_cells, default_section_steps, default_steps, default_workers, section_steps_of, steps_of, threads_of, workers_of}
use Rattle.cpc_cli_command.specs.declared.words.Options.{Options as ParsedOptions}
use Rattle.cpc_cli_command.specs.declared.words.Command.{Command as Parsed}
use Rattle.cpc_cli_command.specs.declared.words.Command.TheVariants as P

-- ---- what the words may be

-- FILE
abbrev pub file_rule : Rule
file_rule = record (new_rule (codes "FILE")) { required = true }

-- N
abbrev pub count_rule : Rule
count_rule = record (new_rule (codes "N")) { required = true }

-- `--NAME VALUE`
abbrev pub option_rule : Text → Rule
option_rule name = record (new_rule name) { long = Some name; action = Some Set }

-- `--NAME`
abbrev pub flag_rule : Text → Rule
flag_rule name = record (new_rule name) { long = Some name; action = Some SetTrue }

-- `NAME FILE`
abbrev pub on_file : Text → App
on_file name = with_rule (new_app name) file_rule

-- the history of a run and its limits: `--history H`, `--steps N`, `--cells N` and `--section-steps N`
abbrev pub with_limits : App → App
with_limits app = with_rule (with_rule (with_rule (with_rule app (option_rule (codes "history"))) (option_rule (codes "steps")))
    (option_rule (codes "cells"))) (option_rule (codes "section-steps"))

-- and `--workers N`
abbrev pub with_values : App → App
with_values app = with_rule (with_limits app) (option_rule (codes "workers"))

-- and `--trace`
abbrev pub with_options : App → App
with_options app = with_rule (with_values app) (flag_rule (codes "trace"))

abbrev pub run_app : App
run_app = with_rule (with_options (on_file (codes "run"))) (flag_rule (codes "text"))

abbrev pub exec_app : App
exec_app = with_options (on_file (codes "exec"))

-- `sample N`
abbrev pub sample_app : App
sample_app = with_rule (new_app (codes "sample")) count_rule

-- no help, no version, and no name of the program among the words
abbrev pub bare_app : App
bare_app = on_top (λ s. record s {
  no_binary_name = true;
  disable_help_flag = true;
  disable_help_subcommand = true;
  disable_version_flag = true;
  subcommand_required = true;
}) (new_app (codes "cpc"))

-- with the subcommands that only read
abbrev pub reading_app : App
reading_app = with_subcommand (with_subcommand bare_app (on_file (codes "check")).top) (on_file (codes "translate")).top

-- and with those that run
abbrev pub running_app : App
running_app = with_subcommand (with_subcommand reading_app run_app.top) exec_app.top

-- the subcommands, in order
abbrev pub subcommands : List App
subcommands = on_file (codes "check") ∷ on_file (codes "translate") ∷ run_app ∷ exec_app ∷ sample_app ∷ []

unfoldable pub cpc_app : App
cpc_app = fold (λ a s. with_subcommand a s.top) bare_app subcommands

-- a command as it is built has no global argument
abbrev pub IsLocal : Built → Type 0
IsLocal c = (out-Command c).has_globals ≡ false

-- ---- what the words ask for

-- how a program is to run
pub record Options : Type 0 where
  -- the file of the history, where one is named
  pub history : Option Text
  -- the most steps, the most live cells, and the most steps of a section
  pub steps : ℕ
  pub cells : ℕ
  pub section_steps : ℕ
  -- how many workers run sections
  pub workers : ℕ
  -- a trace is wanted, and not the output alone
  pub trace : Bool

pub data Command : Type 0 where
  Check : (file : Text) → Command
  Translate : (file : Text) → Command
  Run : (file : Text) (options : Options) (text : Bool) → Command
  Exec : (file : Text) (options : Options) → Command
  Sample : (number : ℕ) → Command

-- clap's value of a flag is "true" where it was given, and else "false"
abbrev pub is_given : (name : Text) → List Row → Bool
is_given name rows = option_map_or (λ value. bytes_eq value (codes "true")) (first_of name rows) false

abbrev pub steps_in : List Row → Option ℕ
steps_in rows = option_map_or steps_of (first_of (codes "steps") rows) (Some default_steps)

abbrev pub cells_in : List Row → Option ℕ
cells_in rows = option_map_or cells_of (first_of (codes "cells") rows) (Some default_cells)

abbrev pub section_steps_in : List Row → Option ℕ
section_steps_in rows = option_map_or section_steps_of (first_of (codes "section-steps") rows) (Some default_section_steps)

abbrev pub workers_in : List Row → Option ℕ
workers_in rows = option_map_or workers_of (first_of (codes "workers") rows) (Some default_workers)

-- the options of these rows with these numbers
abbrev pub options_with : List Row → (steps cells section_steps workers : ℕ) → Options
options_with rows steps cells section_steps workers = record {
  history = first_of (codes "history") rows;
  steps = steps;
  cells = cells;
  section_steps = section_steps;
  workers = workers;
  trace = is_given (codes "trace") rows;
}

-- the options that the matches give, unless a number breaks its rule
abbrev pub options_in : List Row → Option Options
options_in rows = option_and_then (λ steps. option_and_then (λ cells. option_and_then (λ section_steps.
    option_map (options_with rows steps cells section_steps) (workers_in rows)) (section_steps_in rows)) (cells_in rows)) (steps_in rows)

-- the command of the options, where no number breaks its rule
abbrev pub run_in : (file : Text) → List Row → Option Command
run_in file rows = option_map (λ options. Run file options (is_given (codes "text") rows)) (options_in rows)

abbrev pub exec_in : (file : Text) → List Row → Option Command
exec_in file rows = option_map (Exec file) (options_in rows)

-- the command of a subcommand's name, its file and its matches
abbrev pub command_named : (name file : Text) → List Row → Option Command
command_named name file rows = if bytes_eq name (codes "check") then Some (Check file)
    else (if bytes_eq name (codes "translate") then Some (Translate file)
    else (if bytes_eq name (codes "run") then run_in file rows
    else (if bytes_eq name (codes "exec") then exec_in file rows else None)))

-- the command of a subcommand's name and its matches, of those that take a file
abbrev pub file_command_in : Text × List Row → Option Command
file_command_in met = option_and_then (λ file. command_named met.0 file met.1) (first_of (codes "FILE") met.1)

-- the number of threads of the sample, where it is no wrong one
abbrev pub threads_in : List Row → Option ℕ
threads_in rows = option_and_then threads_of (first_of (codes "N") rows)

abbrev pub sample_in : List Row → Option Command
sample_in rows = option_map Sample (threads_in rows)

-- the command of a subcommand's name and its matches
abbrev pub command_in : Text × List Row → Option Command
command_in met = if bytes_eq met.0 (codes "sample") then sample_in met.1 else file_command_in met

-- the command, where clap refuses nothing
abbrev pub if_taken : Kinds → Option Command → Option Command
if_taken [] command = command
if_taken (_ ∷ _) command = None

-- the command of the words: none where clap refuses one of them or a number breaks its rule
abbrev pub command_of : (words : List Text) → Option Command
command_of words = if_taken (fault_of cpc_app words) (option_and_then command_in (subcommand_of cpc_app words))

-- the options that the code read
abbrev pub asked_options : ParsedOptions → Options
asked_options options = record {
  history = option_map (λ name. name.now) options.history;
  steps = options.steps;
  cells = options.cells;
  section_steps = options.section_steps;
  workers = options.workers;
  trace = options.trace;
}

-- the command that the code read
abbrev pub asked : Parsed → Command
asked (P.Check file) = Check file.now
asked (P.Translate file) = Translate file.now
asked (P.Run file options text) = Run file.now (asked_options options) text
asked (P.Exec file options) = Exec file.now (asked_options options)
asked (P.Sample number) = Sample number
