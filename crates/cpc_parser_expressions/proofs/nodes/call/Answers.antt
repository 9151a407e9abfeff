use Rattle.std.proofs.Common.{refl, ap, ◌∙◌}
use Rattle.cpc_parser_expressions.specs.Shapes as S
use Rattle.cpc_parser_expressions.proofs.Rows.{call_is}
use Rattle.cpc_parser_expressions.proofs.nodes.call.Goals as goal

pub returns-in-Ok-clause-is : goal.returns-in-Ok-clause-is
returns-in-Ok-clause-is c = λ names. ap (λ z. S.Postfixed z) (call_is names c.args.place c.in-Ok.read c.args.arguments) ∙ rw (c.in-Ok.ensures.is, c.in-Never.is) refl
