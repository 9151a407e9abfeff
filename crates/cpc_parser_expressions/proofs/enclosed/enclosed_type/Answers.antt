use Rattle.std.proofs.Common.{ap, ◌∙◌}
use Rattle.cpc_tree.specs.Erase.{type_of}
use Rattle.cpc_parser_reading.specs.Reading.{Read, ◌>>=◌}
use Rattle.cpc_parser_types.specs.Views.{placed}
use Rattle.cpc_parser_types.proofs.Refusing.{refused_is}
use Rattle.cpc_parser_types.proofs.Giving.{err_through}
use Rattle.cpc_parser_expressions.proofs.Enclosing.{enclosed_is}
use Rattle.cpc_parser_expressions.proofs.Stages.{on_read}
use Rattle.cpc_parser_expressions.proofs.enclosed.enclosed_type.Goals as goal

pub returns-in_err-of-clause-gives : goal.returns-in_err-of-clause-gives
returns-in_err-of-clause-gives c = λ names. err_through _ _ _ _ _ _ c.from_residual.ensures.1 (c.in_err-of.ensures.gives names) (enclosed_is c.args.depth (placed names c.args.tokens.now))

pub returns-in-Err-clause-gives : goal.returns-in-Err-clause-gives
returns-in-Err-clause-gives c =
    λ names. err_through _ _ _ _ _ (λ y. Read (type_of names c.in_ok-of.of, c.in_ok-of.nest, y.2)) (refused_is c.refused.ensures) (c.in-Err.ensures.gives names)
    (on_read _ _ _ _ (enclosed_is c.args.depth (placed names c.args.tokens.now)) (c.in_ok-of.ensures.gives names))

pub returns-clause-gives : goal.returns-clause-gives
returns-clause-gives c =
    λ names. on_read _ _ _ _ (enclosed_is c.args.depth (placed names c.args.tokens.now)) (c.in_ok-of.ensures.gives names)
    ∙ ap (λ r. r >>= λ y. Read (type_of names c.in_ok-of.of, c.in_ok-of.nest, y.2)) (c.in-Ok.ensures.gives names)
