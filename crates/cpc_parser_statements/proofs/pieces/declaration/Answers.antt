use Rattle.std.proofs.lemmas.Result.{err_from_is_err_and}
use Rattle.cpc_tree.specs.declared.token.Punctuator.TheVariants as P
use Rattle.cpc_parser_reading.specs.Reading.{Read, expect}
use Rattle.cpc_parser_types.specs.Begins.{is_mark}
use Rattle.cpc_parser_types.specs.Views.{placed}
use Rattle.cpc_parser_statements.specs.LocalReaders.{local_at}
use Rattle.cpc_parser_statements.specs.CodeViews.{seen, with_locals}
use Rattle.cpc_parser_statements.proofs.LocalSteps.{refused_then}
use Rattle.cpc_parser_statements.proofs.StmtSteps.{mapped_before}
use Rattle.cpc_parser_statements.proofs.pieces.declaration.Goals as goal

pub returns-in_err-rest-clause-gives : goal.returns-in_err-rest-clause-gives
returns-in_err-rest-clause-gives c = λ names.
    let p = err_from_is_err_and c.from_residual-in_err-rest.result c.from_residual-in_err-rest.ensures.1 in
    rw (p.1, p.2, mapped_before (with_locals (seen names c.args.all.items)) (local_at c.args.room) (λ t. is_mark P.Semicolon t.lexeme) (placed names c.args.tokens.now), c.in_ok-all.ensures.gives names)
    (refused_then c.in_err-rest.field-0.0 (expect (λ t. is_mark P.Semicolon t.lexeme) (placed names c.in_ok-all.rest.now)) (λ y. Read (seen names c.in_ok-all.all.items, c.in_ok-all.nest, y.2)) (c.in_err-rest.ensures.gives names))
