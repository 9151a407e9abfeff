use Rattle.std.proofs.Common.{rules, ◌≡◌, true}
use Rattle.cpc_cli_command.specs.Number.{is_numeral}
use Rattle.cpc_cli_command.proofs.NumberLemmas.{numeral_reads}
use Rattle.cpc_cli_command.proofs.number.read_number_up_to.Goals as goal

pub returns-in_err-number : goal.returns-in_err-number
returns-in_err-number c =
    let numeral : is_numeral c.args.text.now ≡ true = search rules in
    let read = numeral_reads c.args.text.now c.parse.result c.parse.ensures.value.0 numeral in
    search (rules, read)
