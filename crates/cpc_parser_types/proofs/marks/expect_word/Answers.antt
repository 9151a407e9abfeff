use Rattle.cpc_parser_types.proofs.SameMarks.{first_word_is}
use Rattle.cpc_parser_types.proofs.marks.expect_word.Goals as goal

pub returns-in-Some-clause-first : goal.returns-in-Some-clause-first
returns-in-Some-clause-first c = first_word_is c.args.tokens.now c.in-Some.token.now c.in-Some.rest.now c.args.word c.begins_word.result c.in-Some.ensures.cases.0 c.begins_word.ensures c.if-begins_word.true
