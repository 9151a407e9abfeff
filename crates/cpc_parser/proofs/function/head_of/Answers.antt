use Rattle.cpc_parser_types.specs.Views.{placed}
use Rattle.cpc_parser_types.proofs.Giving.{err_through}
use Rattle.cpc_parser.proofs.Steps.{onward, head_steps}
use Rattle.cpc_parser.proofs.function.head_of.Goals as goal

pub returns-in_err-base-clause-gives : goal.returns-in_err-base-clause-gives
returns-in_err-base-clause-gives c = λ names.
    err_through _ c.from_residual.result c.in_err-base.field-0.0 _ _ _ c.from_residual.ensures.1 (c.in_err-base.ensures.gives names c.args.depth) (head_steps c.args.depth (placed names c.args.tokens.now))

pub returns-in_err-result-clause-gives : goal.returns-in_err-result-clause-gives
returns-in_err-result-clause-gives c = λ names.
    let a = onward _ _ _ _ (head_steps c.args.depth (placed names c.args.tokens.now)) (c.in_ok-base.ensures.gives names c.args.depth) in
    err_through _ c.from_residual-in_err-result.result c.in_err-result.field-0.0 _ _ _ c.from_residual-in_err-result.ensures.1 (c.in_err-result.ensures.gives names) a

pub returns-in_err-word-clause-gives : goal.returns-in_err-word-clause-gives
returns-in_err-word-clause-gives c = λ names.
    let a = onward _ _ _ _ (onward _ _ _ _ (head_steps c.args.depth (placed names c.args.tokens.now)) (c.in_ok-base.ensures.gives names c.args.depth)) (c.in_ok-result.ensures.gives names) in
    err_through _ c.from_residual-in_err-word.result c.in_err-word.field-0.0 _ _ _ c.from_residual-in_err-word.ensures.1 (c.in_err-word.ensures.gives names) a

pub returns-in_err-parameters-clause-gives : goal.returns-in_err-parameters-clause-gives
returns-in_err-parameters-clause-gives c = λ names.
    let a = onward _ _ _ _ (onward _ _ _ _ (onward _ _ _ _ (head_steps c.args.depth (placed names c.args.tokens.now)) (c.in_ok-base.ensures.gives names c.args.depth)) (c.in_ok-result.ensures.gives names)) (c.in_ok-word.ensures.gives names) in
    err_through _ c.from_residual-in_err-parameters.result c.in_err-parameters.field-0.0 _ _ _ c.from_residual-in_err-parameters.ensures.1 (c.in_err-parameters.ensures.gives names) a

pub returns-clause-gives : goal.returns-clause-gives
returns-clause-gives c = λ names.
    onward _ _ _ _ (onward _ _ _ _ (onward _ _ _ _ (onward _ _ _ _ (head_steps c.args.depth (placed names c.args.tokens.now)) (c.in_ok-base.ensures.gives names c.args.depth)) (c.in_ok-result.ensures.gives names)) (c.in_ok-word.ensures.gives names)) (c.in_ok-parameters.ensures.gives names)
