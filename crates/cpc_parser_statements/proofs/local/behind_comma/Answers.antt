use Rattle.cpc_tree.specs.declared.token.Punctuator.TheVariants as P
use Rattle.cpc_parser_types.proofs.SameMarks.{first_is}
use Rattle.cpc_parser_statements.proofs.local.behind_comma.Goals as goal

pub returns-then-begins_mark-clause-some : goal.returns-then-begins_mark-clause-some
returns-then-begins_mark-clause-some c = (_, first_is c.args.tokens.now c.in-Some.field-0-0.now c.in-Some.behind.now P.Comma c.begins_mark.result c.in-Some.ensures.cases.0 c.begins_mark.ensures c.if-begins_mark.true)
