use Rattle.std.proofs.Common.{ap, ◌∙◌}
use Rattle.cpc_tree.specs.Syntax.{TyStruct}
use Rattle.cpc_parser_reading.specs.Reading.{Read, ◌>>=◌}
use Rattle.cpc_parser_types.proofs.BaseSteps.{struct_read}
use Rattle.cpc_parser_types.proofs.base.base_type.Goals as goal

pub returns-then-begins_word-clause-gives : goal.returns-then-begins_word-clause-gives
returns-then-begins_word-clause-gives c =
    λ names d. struct_read names d c.args.tokens.now c.in-Some.token.now c.in-Some.rest.now c.begins_word.result c.in-Some.ensures.cases.0 c.begins_word.ensures c.if-begins_word.true
    ∙ ap (λ r. r >>= λ x. Read (TyStruct x.0.text, x.1, x.2)) (c.in_ok-tag.ensures.gives names)
