-- How the code's answers meet the command of the words.
use Rattle.std.proofs.Common.{◌≡◌, ◌∙◌, Bool, true, ◌≢◌, inl, inr, subst, List, [], ◌∷◌, Option, Some, None, Result, Err, IfOk, refl, sym, ap, codes, option_map}
use Rattle.std.specs.Prelude.{◌⊎◌, bytes_eq, if◌then◌else◌, option_and_then}
use Rattle.std.specs.Option.{ok_or}
use Rattle.std.specs.Box.{box_value}
use Rattle.clap.specs.Matches.{first_value, found_of, subcommand_name_of}
use Rattle.clap.specs.Walk.{Row, Text, first_of, rows_of}
use Rattle.clap.specs.Kinds.{IsAmong, Kinds}
use Rattle.clap.specs.Simple.{App, HasMatchesOf, is_simple, subcommand_of, subcommand_rows_of}
use Rattle.clap.specs.Faults.{fault_of, is_simple_and_free}
use Rattle.clap.specs.declared.error.kind.ErrorKind.TheVariants.{OutOfMemory}
use Rattle.clap.proofs.OnLiterals.{clap_on_literals}
use Rattle.clap.specs.declared.error.kind.ErrorKind.{ErrorKind}
use Rattle.clap.specs.declared.parser.matches.Found.{Found}
use Rattle.clap.specs.declared.parser.matches.ArgMatches.{ArgMatches}
use Rattle.clap.specs.declared.parser.matches.ArgMatches.TheViews.{out-ArgMatches, out-SubCommand}
use Rattle.clap.proofs.WalkLemmas.{first_value-rows}
use Rattle.cpc_base.specs.declared.stop.Stop.{Stop}
use Rattle.cpc_base.specs.declared.stop.Stop.TheVariants.{Fault}
use Rattle.cpc_cli_command.specs.Commands.{Command, asked, command_in, command_of, cpc_app, file_command_in, if_taken, sample_in}
use Rattle.cpc_cli_command.specs.declared.words.Command.{Command as Parsed}
use Rattle.cpc_cli_command.specs.declared.words.Usage.{Usage}

-- what `get_str` gave is the first value of the rows
pub first_is : (f : Found) (id : Text) (given : Option Text) → given ≡ first_value f id → first_of id (rows_of f) ≡ given
first_is f id given e = sym (e ∙ first_value-rows f id)

abbrev pair_of : {X : Type 0} → (X → Text) → (X → List Row) → X → Text × List Row
pair_of name_of rows_in x = (name_of x, rows_in x)

-- an option that shows as its two parts show
parts : {X : Type 0} (o : Option X) (name_of : X → Text) (rows_in : X → List Row) (name : Text) (rows : List Row)
    → Some name ≡ option_map name_of o → Some rows ≡ option_map (λ (p : Text × List Row). p.1) (option_map (pair_of name_of rows_in) o)
    → option_map (pair_of name_of rows_in) o ≡ Some (name, rows)
parts None name_of rows_in name rows e f = cc
parts (Some x) name_of rows_in name rows e f = cc

-- the subcommand that was entered, by its name and its rows
pub entered_is : (m : ArgMatches) (name : Text) (rows : List Row) → Some name ≡ subcommand_name_of m
    → Some rows ≡ option_map (λ (p : Text × List Row). p.1) (subcommand_rows_of m) → subcommand_rows_of m ≡ Some (name, rows)
entered_is m name rows e f = parts (out-ArgMatches m).subcommand (λ b. (out-SubCommand (box_value b)).name.now)
    (λ b. rows_of (found_of (out-SubCommand (box_value b)).matches)) name rows e f

-- the command that was entered
pub entered_command : (met : Option (Text × List Row)) (name : Text) (rows : List Row) → met ≡ Some (name, rows) → option_and_then command_in met ≡ command_in (name, rows)
entered_command met name rows e = ap (option_and_then command_in) e

-- it is that of its name, which is the one that takes a number, or one of those that take a file
pub command_by : (name : Text) (rows : List Row) (s : Bool) (found want : Option Command) → bytes_eq name (codes "sample") ≡ s
    → found ≡ want → want ≡ (if s then sample_in rows else file_command_in (name, rows)) → found ≡ command_in (name, rows)
command_by name rows s found want is e f = e ∙ (f ∙ ap (λ b. if b then sample_in rows else file_command_in (name, rows)) (sym is))

simple : is_simple cpc_app ≡ true
unfolding cpc_app clap_on_literals
simple = refl

simple_and_free : is_simple_and_free cpc_app ≡ true
unfolding cpc_app clap_on_literals
simple_and_free = refl

refused_is : (kinds : Kinds) (k : ErrorKind) (c : Option Command) → IsAmong k kinds → if_taken kinds c ≡ None
refused_is [] k c h = absurd h
refused_is (x ∷ xs) k c h = refl

-- where clap takes the words, the command is the one that was entered
pub taken_is : (app : App) (words : List Text) (m : ArgMatches) (found : Option Command) → app ≡ cpc_app
    → (is_simple_and_free app ≡ true → fault_of app words ≡ []) → HasMatchesOf app words m
    → found ≡ option_and_then command_in (subcommand_rows_of m) → found ≡ command_of words
taken_is app words m found is taken matches e =
    let none : fault_of cpc_app words ≡ [] = sym (ap (λ a. fault_of a words) is) ∙ taken (ap is_simple_and_free is ∙ simple_and_free) in
    let met : subcommand_rows_of m ≡ subcommand_of cpc_app words = (matches (ap is_simple is ∙ simple)).1 ∙ ap (λ a. subcommand_of a words) is in
    e ∙ (ap (option_and_then command_in) met ∙ sym (ap (λ kinds. if_taken kinds (option_and_then command_in (subcommand_of cpc_app words))) none))

-- and where it refuses them there is none
pub none_is : (app : App) (words : List Text) (k : ErrorKind) → app ≡ cpc_app
    → (is_simple_and_free app ≡ true → (k ≡ OutOfMemory) ⊎ IsAmong k (fault_of app words)) → k ≢ OutOfMemory → command_of words ≡ None
none_is app words k is refused other = elim (refused (ap is_simple_and_free is ∙ simple_and_free)) [
  | inl memory ↦ absurd (other memory)
  | inr among ↦ refused_is (fault_of cpc_app words) k _ (subst (λ (a : App). IsAmong k (fault_of a words)) is among)
]

-- an answer with a fault where there is no command
pub answer_is : (o : Option Parsed) (want : Option Command) (s : Stop Usage) (r : Result Parsed (Stop Usage)) → option_map asked o ≡ want → r ≡ ok_or o s
    → IfOk r (λ c. want ≡ Some (asked c))
answer_is None want s r e f = rw f tt
answer_is (Some x) want s r e f = rw f (sym e)

pub no_answer_is : (o : Option Parsed) (want : Option Command) (s : Stop Usage) (r : Result Parsed (Stop Usage)) → option_map asked o ≡ want → r ≡ ok_or o s
    → (u : Usage) → r ≡ Err (Fault u) → want ≡ None
no_answer_is None want s r e f u g = sym e
no_answer_is (Some x) want s r e f u g = cc
