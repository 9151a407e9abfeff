use Rattle.std.proofs.Common.{◌-◌, sym, ap, ◌∙◌, arith, Some}
use Rattle.std.specs.Option.{option_map}
use Rattle.cpc_parser_types.proofs.SameMarks.{unnamed}
use Rattle.cpc_parser_expressions.specs.Shapes.{Bare}
use Rattle.cpc_parser_statements.specs.CodeViews.{first_seen}
use Rattle.cpc_parser_statements.proofs.SimpleSteps.{unary_least, simple_word}
use Rattle.cpc_parser_statements.proofs.simple.simple.Goals as goal

pub behind-requires-clause-low : goal.behind-requires-clause-low
behind-requires-clause-low c = unary_least (c.args.depth - 1) Bare _ _ (omega (arith, c.if-depth-lt2-2.false)) (c.in_ok-shape-in-Some-Expression.ensures.gives unnamed)

pub returns-in-Some-Section-clause-gives : goal.returns-in-Some-Section-clause-gives
returns-in-Some-Section-clause-gives c = λ names. rw (simple_word names c.args.depth c.args.tokens.now c.in-Some.token.now c.in-Some.rest.now c.in-Some.ensures.cases.0
    (sym (c.first_of.ensures names) ∙ ap (option_map first_seen) (c.in-Some-Section.is ∙ ap Some c.in-Some-Section.field-0-is)) c.requires) (c.detached.ensures.gives names)
