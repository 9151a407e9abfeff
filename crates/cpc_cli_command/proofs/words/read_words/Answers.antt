use Rattle.std.proofs.Common.{map, string_bytes}
use Rattle.clap.specs.Words.{app_of, kind_of}
use Rattle.cpc_cli_command.proofs.CommandLemmas.{answer_is, no_answer_is, none_is, taken_is}
use Rattle.cpc_cli_command.proofs.words.read_words.Goals as goal

pub returns-in-Ok-clause-command : goal.returns-in-Ok-clause-command
returns-in-Ok-clause-command c =
    let found = taken_is (app_of c.in_ok-command.command) (map string_bytes c.args.words.now) c.in-Ok.matches _ c.in_ok-command.ensures c.in-Ok.ensures.kinds c.in-Ok.ensures.matches c.subcommand_in.ensures in
    answer_is c.subcommand_in.result _ _ c.ok_or.result found c.ok_or.ensures.value

pub returns-in-Ok-clause-usage : goal.returns-in-Ok-clause-usage
returns-in-Ok-clause-usage c =
    let found = taken_is (app_of c.in_ok-command.command) (map string_bytes c.args.words.now) c.in-Ok.matches _ c.in_ok-command.ensures c.in-Ok.ensures.kinds c.in-Ok.ensures.matches c.subcommand_in.ensures in
    no_answer_is c.subcommand_in.result _ _ c.ok_or.result found c.ok_or.ensures.value

pub returns-in-Err-clause-usage : goal.returns-in-Err-clause-usage
returns-in-Err-clause-usage c = λ u e.
    none_is (app_of c.in_ok-command.command) (map string_bytes c.args.words.now) (kind_of c.in-Err.error) c.in_ok-command.ensures c.in-Err.ensures.kinds (c.stop_of.ensures u cc)
