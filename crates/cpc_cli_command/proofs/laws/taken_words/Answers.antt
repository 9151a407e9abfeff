use Rattle.cpc_cli_command.proofs.OperandGiven.{breaks_number, enters_operand}
use Rattle.cpc_cli_command.proofs.laws.taken_words.Goals as goal

pub returns : goal.returns
returns c = record { operand = enters_operand; number = breaks_number }
