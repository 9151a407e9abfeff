use Rattle.std.proofs.Common.{◌∙◌, ap, sym, Some, None}
use Rattle.std.specs.Option.{option_map_or}
use Rattle.clap.specs.Words.{found_of}
use Rattle.cpc_cli_command.specs.Number.{number_of}
use Rattle.cpc_cli_command.proofs.CommandLemmas.{first_is}
use Rattle.cpc_cli_command.proofs.words.number_in.Goals as goal

pub returns-in-Some : goal.returns-in-Some
returns-in-Some c =
    let first = first_is (found_of c.args.values.now) c.args.name.now (Some c.in-Some.text.now) c.in-Some.ensures in
    c.read_number.ensures ∙ sym (ap (λ o. option_map_or (number_of c.args.most) o (Some c.args.default)) first)

pub returns-in-None : goal.returns-in-None
returns-in-None c =
    let first = first_is (found_of c.args.values.now) c.args.name.now None c.in-None.ensures in
    sym (ap (λ o. option_map_or (number_of c.args.most) o (Some c.args.default)) first)
