use Rattle.cpc_parser_types.proofs.SameMarks.{first_is}
use Rattle.cpc_parser_types.proofs.marks.expect_mark.Goals as goal

pub returns-in-Some-clause-first : goal.returns-in-Some-clause-first
returns-in-Some-clause-first c = first_is c.args.tokens.now c.in-Some.token.now c.in-Some.rest.now c.args.mark c.begins_mark.result c.in-Some.ensures.cases.0 c.begins_mark.ensures c.if-begins_mark.true
