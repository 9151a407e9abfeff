-- The numbers of a command are within their bounds.
use Rattle.std.proofs.Common.{◌≡◌, ◌≤◌, ◌&&◌, ℕ, Bool, true, false, List, [], ◌∷◌, Option, Some, None, nat_le, codes, bytes_eq, refl, arith}
use Rattle.std.specs.Prelude.{if◌then◌else◌, option_and_then, option_map}
use Rattle.std.specs.Option.{option_map_or}
use Rattle.std.specs.Str.Parse.{digits_value}
use Rattle.std.proofs.lemmas.Bool.Decides.{nat_tests}
use Rattle.clap.specs.Kinds.{Kinds}
use Rattle.clap.specs.Walk.{Row, first_of}
use Rattle.clap.specs.Simple.{subcommand_of}
use Rattle.clap.specs.Faults.{fault_of}
use Rattle.cpc_base.specs.Bytes.{Text}
use Rattle.cpc_cli_command.specs.Commands.{Command, Check, Exec, Options, Sample, Translate, Run, cells_in, command_in, command_named, command_of, cpc_app, exec_in, file_command_in, if_taken, is_given, options_in, options_with, run_in, sample_in, section_steps_in, steps_in, threads_in, workers_in}
use Rattle.cpc_cli_command.specs.Number.{default_cells, default_section_steps, default_steps, default_workers, is_numeral, most_cells, most_section_steps, most_steps, most_threads, most_workers, number_of, number_up_to, threads_of}
use Rattle.cpc_cli_command.specs.Usage.{AreBounded, IsBounded}

-- P of what is there
abbrev pub IfThere : {A : Type 0} → (A → Type 0) → Option A → Type 0
IfThere P None = Unit {0}
IfThere P (Some a) = P a

abbrev pub Within : (most n : ℕ) → Type 0
Within most n = (1 ≤ n) × (n ≤ most)

pub number_within : (most : ℕ) (text : Text) → IfThere (Within most) (number_of most text)
number_within most text = go (is_numeral text) (nat_le 1 n) (nat_le n most) refl refl
  where
    n : ℕ
    n = digits_value 10 text

    go : (a b c : Bool) → nat_le 1 n ≡ b → nat_le n most ≡ c → IfThere (Within most) (if a && (b && c) then Some n else None)
    go false b c e f = tt
    go true false c e f = tt
    go true true false e f = tt
    go true true true e f = (grind (arith, nat_tests), grind (arith, nat_tests))

given_within : (most default : ℕ) → Within most default → (given : Option Text) → IfThere (Within most) (option_map_or (number_of most) given (Some default))
given_within most default w None = w
given_within most default w (Some text) = number_within most text

number_up_within : (most : ℕ) (text : Text) → IfThere (λ n. n ≤ most) (number_up_to most text)
number_up_within most text = go (is_numeral text) (nat_le n most) refl
  where
    n : ℕ
    n = digits_value 10 text

    go : (a b : Bool) → nat_le n most ≡ b → IfThere (λ n. n ≤ most) (if a && b then Some n else None)
    go false b e = tt
    go true false e = tt
    go true true e = grind (arith, nat_tests)

given_up_within : (most default : ℕ) → default ≤ most → (given : Option Text) → IfThere (λ n. n ≤ most) (option_map_or (number_up_to most) given (Some default))
given_up_within most default w None = w
given_up_within most default w (Some text) = number_up_within most text

options_bounded : (rows : List Row) (steps cells section_steps workers : Option ℕ) → IfThere (Within most_steps) steps → IfThere (Within most_cells) cells
    → IfThere (Within most_section_steps) section_steps → IfThere (λ n. n ≤ most_workers) workers
    → IfThere AreBounded (option_and_then (λ s. option_and_then (λ c. option_and_then (λ n. option_map (options_with rows s c n) workers) section_steps) cells) steps)
options_bounded rows None cells more workers h g k j = tt
options_bounded rows (Some s) None more workers h g k j = tt
options_bounded rows (Some s) (Some c) None workers h g k j = tt
options_bounded rows (Some s) (Some c) (Some n) None h g k j = tt
options_bounded rows (Some s) (Some c) (Some n) (Some w) h g k j = (h.0, h.1, g.0, g.1, k.0, k.1, j)

run_bounded : (file : Text) (text : Bool) (options : Option Options) → IfThere AreBounded options → IfThere IsBounded (option_map (λ o. Run file o text) options)
run_bounded file text None h = tt
run_bounded file text (Some o) h = h

exec_bounded : (file : Text) (options : Option Options) → IfThere AreBounded options → IfThere IsBounded (option_map (Exec file) options)
exec_bounded file None h = tt
exec_bounded file (Some o) h = h

named_bounded : (name file : Text) (rows : List Row) → IfThere IsBounded (command_named name file rows)
named_bounded name file rows = go (bytes_eq name (codes "check")) (bytes_eq name (codes "translate")) (bytes_eq name (codes "run")) (bytes_eq name (codes "exec"))
  where
    given : IfThere AreBounded (options_in rows)
    given = options_bounded rows (steps_in rows) (cells_in rows) (section_steps_in rows) (workers_in rows)
        (given_within most_steps default_steps (omega arith, omega arith) (first_of (codes "steps") rows))
        (given_within most_cells default_cells (omega arith, omega arith) (first_of (codes "cells") rows))
        (given_within most_section_steps default_section_steps (omega arith, omega arith) (first_of (codes "section-steps") rows))
        (given_up_within most_workers default_workers (omega arith) (first_of (codes "workers") rows))

    go : (c t r x : Bool) → IfThere IsBounded (if c then Some (Check file) else (if t then Some (Translate file)
        else (if r then run_in file rows else (if x then exec_in file rows else None))))
    go true t r x = tt
    go false true r x = tt
    go false false true x = run_bounded file (is_given (codes "text") rows) (options_in rows) given
    go false false false true = exec_bounded file (options_in rows) given
    go false false false false = tt

sample_bounded : (rows : List Row) → IfThere IsBounded (sample_in rows)
sample_bounded rows = within (threads_in rows) (given (first_of (codes "N") rows))
  where
    given : (text : Option Text) → IfThere (Within most_threads) (option_and_then threads_of text)
    given None = tt
    given (Some text) = number_within most_threads text

    within : (number : Option ℕ) → IfThere (Within most_threads) number → IfThere IsBounded (option_map Sample number)
    within None h = tt
    within (Some n) h = h

in_bounded : (met : Option (Text × List Row)) → IfThere IsBounded (option_and_then command_in met)
in_bounded None = tt
in_bounded (Some (name, rows)) = one (bytes_eq name (codes "sample"))
  where
    go : (file : Option Text) → IfThere IsBounded (option_and_then (λ f. command_named name f rows) file)
    go None = tt
    go (Some file) = named_bounded name file rows

    one : (s : Bool) → IfThere IsBounded (if s then sample_in rows else file_command_in (name, rows))
    one true = sample_bounded rows
    one false = go (first_of (codes "FILE") rows)

taken_bounded : (kinds : Kinds) (command : Option Command) → IfThere IsBounded command → IfThere IsBounded (if_taken kinds command)
taken_bounded [] command h = h
taken_bounded (k ∷ kinds) command h = tt

there : {A : Type 0} (P : A → Type 0) (o : Option A) (a : A) → o ≡ Some a → IfThere P o → P a
there P o a e h = rw e at h

pub bounded_is : (words : List Text) (command : Command) → command_of words ≡ Some command → IsBounded command
bounded_is words command e = there IsBounded (command_of words) command e (taken_bounded (fault_of cpc_app words) (option_and_then command_in (subcommand_of cpc_app words)) (in_bounded (subcommand_of cpc_app words)))
