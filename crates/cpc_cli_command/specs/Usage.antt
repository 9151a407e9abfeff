-- What the words mean, in words that do not speak of clap.
use Rattle.std.specs.Prelude.{◌≡◌, if◌then◌else◌, ◌≤◌, ◌==◌, ◌⊎◌, Bool, true, false, not, List, [], ◌∷◌, Option, Some, None, codes, bytes_eq, option_map}
use Rattle.std.specs.List.{list_any}
use Rattle.clap.specs.Walk.{Row, first_of}
use Rattle.clap.specs.Simple.{subcommand_of}
use Rattle.cpc_base.specs.Bytes.{Text}
use Rattle.cpc_cli_command.specs.Commands.{Command, Check, Translate, Exec, Options, Run, Sample, cells_in, command_of, cpc_app, section_steps_in, steps_in, threads_in, workers_in}
use Rattle.cpc_cli_command.specs.Number.{cells_of, default_cells, default_section_steps, default_steps, default_workers, most_cells, most_section_steps, most_steps, most_threads, most_workers, section_steps_of, steps_of, threads_of, workers_of}

-- the word does not begin with `-`
abbrev pub is_plain : Text → Bool
is_plain [] = true
is_plain (byte ∷ _) = not (byte == 45)

abbrev pub IsPlain : Text → Type 0
IsPlain word = is_plain word ≡ true

-- the word is the name of a subcommand
abbrev pub is_verb : Text → Bool
is_verb word = list_any (λ verb. bytes_eq verb word) (codes "check" ∷ codes "translate" ∷ codes "run" ∷ codes "exec" ∷ codes "sample" ∷ [])

-- the words ask for the command
abbrev pub Means : (words : List Text) → Option Command → Type 0
Means words command = command_of words ≡ command

-- the options where the words give none
abbrev pub defaults : Options
defaults = record { history = None; steps = default_steps; cells = default_cells; section_steps = default_section_steps; workers = default_workers; trace = false }

-- the options with the steps that a text writes
abbrev pub steps_by : Text → Option Options
steps_by number = option_map (λ n. record defaults { steps = n }) (steps_of number)

-- the options with the cells that a text writes
abbrev pub cells_by : Text → Option Options
cells_by number = option_map (λ n. record defaults { cells = n }) (cells_of number)

-- the options with the steps of a section that a text writes
abbrev pub section_steps_by : Text → Option Options
section_steps_by number = option_map (λ n. record defaults { section_steps = n }) (section_steps_of number)

-- the options with the workers that a text writes
abbrev pub workers_by : Text → Option Options
workers_by number = option_map (λ n. record defaults { workers = n }) (workers_of number)

-- the options with a history
abbrev pub told_by : Text → Options
told_by history = record defaults { history = Some history }

-- the options with a trace
abbrev pub traced : Options
traced = record defaults { trace = true }

-- the run of a file, without the printed text, where the options are there
abbrev pub run_by : (file : Text) → Option Options → Option Command
run_by file options = option_map (λ o. Run file o false) options

abbrev pub exec_by : (file : Text) → Option Options → Option Command
exec_by file options = option_map (Exec file) options

-- the sample of the number that a text writes
abbrev pub sample_by : Text → Option Command
sample_by number = option_map Sample (threads_of number)

-- the numbers of the options are within their bounds
abbrev pub AreBounded : Options → Type 0
AreBounded options = (1 ≤ options.steps) × (options.steps ≤ most_steps) × (1 ≤ options.cells) × (options.cells ≤ most_cells)
    × (1 ≤ options.section_steps) × (options.section_steps ≤ most_section_steps) × (options.workers ≤ most_workers)

-- the numbers of a command are within their bounds
abbrev pub IsBounded : Command → Type 0
IsBounded (Check file) = Unit {0}
IsBounded (Translate file) = Unit {0}
IsBounded (Run file options text) = AreBounded options
IsBounded (Exec file options) = AreBounded options
IsBounded (Sample number) = (1 ≤ number) × (number ≤ most_threads)

-- the one word that a subcommand takes which is no option: `sample` a number, the others a file
abbrev pub operand_of : (name : Text) → Text
operand_of name = if bytes_eq name (codes "sample") then codes "N" else codes "FILE"

-- a subcommand's name and its matches, with a value for its operand
abbrev pub HasOperand : Text × List Row → Type 0
HasOperand met = (is_verb met.0 ≡ true) × (value : Text) × (first_of (operand_of met.0) met.1 ≡ Some value)

-- the words enter a subcommand that has its operand
abbrev pub EntersOperand : (words : List Text) → Type 0
EntersOperand words = (met : Text × List Row) × (subcommand_of cpc_app words ≡ Some met) × HasOperand met

-- the words enter a subcommand whose `--steps` is no number of steps, whose `--cells` is no number of cells, whose `--section-steps` is no number of
-- steps of a section, or whose `--workers` is no number of workers, or `sample` with no number of threads
abbrev pub BreaksNumber : (words : List Text) → Type 0
BreaksNumber words = (met : Text × List Row) × (subcommand_of cpc_app words ≡ Some met)
    × (steps_in met.1 ≡ None ⊎ (cells_in met.1 ≡ None ⊎ (section_steps_in met.1 ≡ None ⊎ (workers_in met.1 ≡ None ⊎ ((met.0 ≡ codes "sample") × (threads_in met.1 ≡ None))))))
