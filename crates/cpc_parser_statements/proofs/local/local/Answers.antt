use Rattle.std.proofs.lemmas.Result.{err_from_is_err_and}
use Rattle.cpc_parser_types.specs.Views.{placed}
use Rattle.cpc_parser_types.specs.TypeViews.{base_type}
use Rattle.cpc_parser_statements.specs.CodeViews.{seen}
use Rattle.cpc_parser_statements.proofs.LocalSteps.{local_is, local_fails}
use Rattle.cpc_parser_statements.proofs.local.local.Goals as goal

pub returns-in_err-base-clause-gives : goal.returns-in_err-base-clause-gives
returns-in_err-base-clause-gives c = λ names.
    let p = err_from_is_err_and c.from_residual.result c.from_residual.ensures.1 in
    rw (p.1, p.2) (local_fails c.in_err-base.field-0.0 (seen names c.args.all.items) c.args.depth (placed names c.args.tokens.now) (c.in_err-base.ensures.gives names c.args.depth))

pub returns-clause-gives : goal.returns-clause-gives
returns-clause-gives c = λ names.
    rw (local_is names (seen names c.args.all.items) c.args.depth c.args.tokens.now c.in-Some.token.now c.in-Some.field-0-1.now (base_type names c.in_ok-base.base) _ c.in-Some.ensures.cases.0 (c.in_ok-base.ensures.gives names c.args.depth)) (c.parts.ensures.gives names)
