use Rattle.std.proofs.Common.{ap, sym, ◌∙◌}
use Rattle.cpc_tree.specs.Erase.{type_of}
use Rattle.cpc_tree.specs.Syntax.{TyPointer}
use Rattle.cpc_parser_reading.specs.Reading.{Read, ◌>>=◌}
use Rattle.cpc_parser_types.specs.Views.{placed}
use Rattle.cpc_parser_types.proofs.BracketSteps.{pointed_bracket}
use Rattle.cpc_parser_types.proofs.Giving.{err_through}
use Rattle.cpc_parser_types.proofs.brackets.pointed.Goals as goal

pub returns-in_err-rest-2-clause-gives : goal.returns-in_err-rest-2-clause-gives
returns-in_err-rest-2-clause-gives c =
    λ names d. err_through _ _ _ _ _ (λ x. Read (TyPointer (type_of names c.args.of), 0, x.2)) c.from_residual-in_err-rest-2.ensures.1 (c.in_err-rest-2.ensures.gives names)
    (pointed_bracket names d (type_of names c.args.of) c.args.tokens.now c.in_ok-rest.rest.now c.without_integer-rest.result.now c.in_ok-rest.field-0-0 c.in_ok-rest.ensures.first (c.without_integer-rest.ensures.gives names d))

pub returns-clause-gives : goal.returns-clause-gives
returns-clause-gives c =
    λ names d. pointed_bracket names d (type_of names c.args.of) c.args.tokens.now c.in_ok-rest.rest.now c.without_integer-rest.result.now c.in_ok-rest.field-0-0 c.in_ok-rest.ensures.first (c.without_integer-rest.ensures.gives names d)
    ∙ (ap (λ r. r >>= λ x. Read (TyPointer (type_of names c.args.of), 0, x.2)) (c.in_ok-rest-2.ensures.gives names)
    ∙ ap (λ t. Read (TyPointer (type_of names t), 0, placed names c.in_ok-rest-2.rest.now)) (sym c.in_ok-new.ensures.ok))
