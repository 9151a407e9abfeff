use Rattle.cpc_cli_command.proofs.BoundLemmas.{bounded_is}
use Rattle.cpc_cli_command.proofs.laws.bounded_words.Goals as goal

pub returns : goal.returns
returns c = bounded_is
