use Rattle.std.proofs.Common.{map}
use Rattle.cpc_tree.specs.Locate.{located_field}
use Rattle.cpc_parser_types.specs.Views.{placed}
use Rattle.cpc_parser_types.proofs.Giving.{err_through}
use Rattle.cpc_parser.proofs.Steps.{onward, gives_as}
use Rattle.cpc_parser.proofs.FieldSteps.{line_steps}
use Rattle.cpc_parser.proofs.structure.line.Goals as goal

pub returns-in_err-base-clause-gives : goal.returns-in_err-base-clause-gives
returns-in_err-base-clause-gives c = λ names.
    err_through _ c.from_residual.result c.in_err-base.field-0.0 _ _ _ c.from_residual.ensures.1 (c.in_err-base.ensures.gives names c.args.depth) (line_steps c.args.depth (map (located_field names) c.args.all.now.items) (placed names c.args.tokens.now))

pub returns-clause-gives : goal.returns-clause-gives
returns-clause-gives c = λ names.
    gives_as _ c.field_row.result _ _ (onward _ _ _ _ (line_steps c.args.depth (map (located_field names) c.args.all.now.items) (placed names c.args.tokens.now)) (c.in_ok-base.ensures.gives names c.args.depth)) (c.field_row.ensures.gives names)
