use Rattle.std.proofs.Common.{map}
use Rattle.cpc_tree.specs.Locate.{located_item}
use Rattle.cpc_parser_types.specs.Views.{placed}
use Rattle.cpc_parser_types.proofs.Giving.{err_through}
use Rattle.cpc_parser_statements.proofs.LocalSteps.{begin_at}
use Rattle.cpc_parser.proofs.Steps.{onward, gives_as, based_steps}
use Rattle.cpc_parser.proofs.item.based.Goals as goal

pub returns-in_err-base-clause-gives : goal.returns-in_err-base-clause-gives
returns-in_err-base-clause-gives c = λ names.
    let e = begin_at names c.args.tokens.now c.in-Some.token.now _ c.in-Some.ensures.cases.0 in
    err_through _ c.from_residual.result c.in_err-base.field-0.0 _ _ _ c.from_residual.ensures.1 (c.in_err-base.ensures.gives names c.args.depth) (based_steps (map (located_item names) c.args.all.now.items) c.in-Some.token.now.place c.args.depth (placed names c.args.tokens.now) e)

pub returns-clause-gives : goal.returns-clause-gives
returns-clause-gives c = λ names.
    let e = begin_at names c.args.tokens.now c.in-Some.token.now _ c.in-Some.ensures.cases.0 in
    let b = onward _ _ _ _ (based_steps (map (located_item names) c.args.all.now.items) c.in-Some.token.now.place c.args.depth (placed names c.args.tokens.now) e) (c.in_ok-base.ensures.gives names c.args.depth) in
    gives_as _ c.plain.result _ _ b (c.plain.ensures.gives names)
