use Rattle.std.proofs.Common.{arith}
use Rattle.cpc_parser_reading.proofs.SmallStatements.{exact_program}
use Rattle.cpc_parser_reading.proofs.Readers.{answers}
use Rattle.tests_parts.proofs.reading.small_language.Goals as goal

pub returns : goal.returns
returns c = λ d ts. answers exact_program d (omega arith) ts
