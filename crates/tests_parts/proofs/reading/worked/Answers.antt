use Rattle.std.proofs.Common.{refl}
use Rattle.cpc_parser_reading.specs.Chain.{linked, links}
use Rattle.cpc_parser_reading.specs.SmallExpressions.{read}
use Rattle.cpc_parser_reading.specs.SmallStatements.{statement, program}
use Rattle.tests_parts.proofs.reading.worked.Goals as goal

pub returns-clause-call : goal.returns-clause-call
unfolding linked links read statement program
returns-clause-call c = refl

pub returns-clause-perform : goal.returns-clause-perform
unfolding linked links read statement program
returns-clause-perform c = refl

pub returns-clause-round : goal.returns-clause-round
unfolding linked links read statement program
returns-clause-round c = refl

pub returns-clause-operator : goal.returns-clause-operator
unfolding linked links read statement program
returns-clause-operator c = refl

pub returns-clause-deep : goal.returns-clause-deep
unfolding linked links read statement program
returns-clause-deep c = refl

pub returns-clause-end : goal.returns-clause-end
unfolding linked links read statement program
returns-clause-end c = refl

pub returns-clause-nearest : goal.returns-clause-nearest
unfolding linked links read statement program
returns-clause-nearest c = refl
