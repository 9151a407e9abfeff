use Rattle.cpc_parser_reading.proofs.Readers.{answers, complete, once}
use Rattle.cpc_parser_reading.proofs.answers.Goals as goal

pub returns-clause-within : goal.returns-clause-within
returns-clause-within g c = λ d ts le. answers g.G.Grammar.exact d le ts

pub returns-clause-complete : goal.returns-clause-complete
returns-clause-complete g c = λ d ts v h r le. complete g.G.Grammar.exact d ts v h r le

pub returns-clause-once : goal.returns-clause-once
returns-clause-once g c = λ d ts r le a. once g.G.Grammar.exact d ts le r a
