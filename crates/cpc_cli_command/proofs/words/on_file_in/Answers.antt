use Rattle.std.proofs.Common.{rules, ◌≡◌, ◌∙◌, ap, sym, codes, Some, None, option_map}
use Rattle.std.specs.Prelude.{option_and_then}
use Rattle.clap.specs.Words.{found_of, rows_of}
use Rattle.cpc_cli_command.specs.Commands.{asked, command_named}
use Rattle.cpc_cli_command.proofs.CommandLemmas.{first_is}
use Rattle.cpc_cli_command.proofs.words.on_file_in.Goals as goal

pub returns-in_err-file : goal.returns-in_err-file
returns-in_err-file c =
    let file = first_is (found_of c.args.values.now) (codes "FILE") None c.in_err-file.ensures in
    let none : option_map asked c.from_residual.result ≡ None = search rules in
    none ∙ sym (ap (option_and_then (λ t. command_named c.args.name.now t (rows_of (found_of c.args.values.now)))) file)

pub returns : goal.returns
returns c =
    let file = first_is (found_of c.args.values.now) (codes "FILE") (Some c.in_ok-file.file.now) c.in_ok-file.ensures in
    c.command_named.ensures ∙ sym (ap (option_and_then (λ t. command_named c.args.name.now t (rows_of (found_of c.args.values.now)))) file)
