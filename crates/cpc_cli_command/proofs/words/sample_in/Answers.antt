use Rattle.std.proofs.Common.{rules, ◌≡◌, ◌∙◌, ap, sym, codes, Some, None, option_map}
use Rattle.std.specs.Prelude.{option_and_then}
use Rattle.clap.specs.Words.{found_of}
use Rattle.cpc_cli_command.specs.Commands.{Sample, asked}
use Rattle.cpc_cli_command.specs.Number.{threads_of}
use Rattle.cpc_cli_command.proofs.CommandLemmas.{first_is}
use Rattle.cpc_cli_command.proofs.words.sample_in.Goals as goal

pub returns-in_err-text : goal.returns-in_err-text
returns-in_err-text c =
    let text = first_is (found_of c.args.values.now) (codes "N") None c.in_err-text.ensures in
    let none : option_map asked c.from_residual.result ≡ None = search rules in
    none ∙ sym (ap (λ o. option_map Sample (option_and_then threads_of o)) text)

pub returns-in_err-number : goal.returns-in_err-number
returns-in_err-number c =
    let text = first_is (found_of c.args.values.now) (codes "N") (Some c.in_ok-text.text.now) c.in_ok-text.ensures in
    let none : option_map asked c.from_residual-in_err-number.result ≡ None = search rules in
    let number : threads_of c.in_ok-text.text.now ≡ None = search rules in
    none ∙ sym (ap (λ o. option_map Sample (option_and_then threads_of o)) text ∙ ap (option_map Sample) number)

pub returns : goal.returns
returns c =
    let text = first_is (found_of c.args.values.now) (codes "N") (Some c.in_ok-text.text.now) c.in_ok-text.ensures in
    let number : threads_of c.in_ok-text.text.now ≡ Some c.in_ok-number.number = search rules in
    sym (ap (λ o. option_map Sample (option_and_then threads_of o)) text ∙ ap (option_map Sample) number)
