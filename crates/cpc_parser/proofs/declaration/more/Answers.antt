use Rattle.cpc_parser_types.specs.TypeViews.{base_type}
use Rattle.cpc_parser_types.specs.Views.{placed}
use Rattle.cpc_parser.proofs.Steps.{onward}
use Rattle.cpc_parser.proofs.Rows.{more_steps}
use Rattle.cpc_parser.proofs.declaration.more.Goals as goal

pub returns-clause-gives : goal.returns-clause-gives
returns-clause-gives c = λ names.
    onward _ _ _ _ (onward _ _ _ _ (onward _ _ _ _ (more_steps (base_type names c.args.base) c.args.depth (placed names c.args.tokens.now)) (c.in_ok-rest.ensures.gives names)) (c.in_ok-word.ensures.gives names)) (c.in_ok-start.ensures.gives names)
