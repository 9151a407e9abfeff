use Rattle.std.proofs.Common.{codes, option_map}
use Rattle.clap.specs.Words.{found_of}
use Rattle.cpc_cli_command.proofs.CommandLemmas.{first_is}
use Rattle.cpc_cli_command.proofs.words.history_in.Goals as goal

pub returns : goal.returns
returns c = first_is (found_of c.args.values.now) (codes "history") (option_map (λ name. name.now) c.get_str.result) c.get_str.ensures
