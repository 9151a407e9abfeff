use Rattle.std.proofs.Common.{refl, ◌∙◌}
use Rattle.cpc_parser_expressions.proofs.Rows.{call_is}
use Rattle.cpc_parser_expressions.proofs.shape.Shape.whole.Goals as goal

pub returns-in-Ok-clause-is : goal.returns-in-Ok-clause-is
returns-in-Ok-clause-is c = λ names. call_is names c.in-Call.place c.in-Ok.read c.in-Call.arguments ∙ rw (c.in-Ok.ensures.is, c.in-Call.is) refl
