use Rattle.std.proofs.Common.{sym, ◌∙◌}
use Rattle.cpc_tree.specs.Erase.{type_of}
use Rattle.cpc_parser_types.specs.TypeViews.{base_type}
use Rattle.cpc_parser_types.specs.Views.{placed}
use Rattle.cpc_parser_types.proofs.Giving.{err_through}
use Rattle.cpc_parser.proofs.Steps.{onward, gives_as}
use Rattle.cpc_parser.proofs.FirstSteps.{first_steps, declarator_first, named_behind}
use Rattle.cpc_parser.proofs.first.first.Goals as goal

pub returns-in_err-of-clause-gives : goal.returns-in_err-of-clause-gives
returns-in_err-of-clause-gives c = λ names.
    err_through _ c.from_residual.result c.in_err-of.field-0.0 _ _ _ c.from_residual.ensures.1 (c.in_err-of.ensures.gives names) (first_steps (base_type names c.args.base) c.args.depth (placed names c.args.tokens.now))

pub returns-in_err-word-clause-gives : goal.returns-in_err-word-clause-gives
returns-in_err-word-clause-gives c = λ names.
    err_through _ c.from_residual-in_err-word.result c.in_err-word.field-0.0 _ _ _ c.from_residual-in_err-word.ensures.1 (c.in_err-word.ensures.gives names)
    (declarator_first (base_type names c.args.base) c.args.depth (placed names c.args.tokens.now) (placed names c.in_ok-of.rest.now) (type_of names c.in_ok-of.of) _ (c.in_ok-of.ensures.gives names) (sym (c.begins_mark.ensures names) ∙ c.if-begins_mark.true))

pub returns-then-begins_mark-clause-gives : goal.returns-then-begins_mark-clause-gives
returns-then-begins_mark-clause-gives c = λ names.
    onward _ _ _ _ (declarator_first (base_type names c.args.base) c.args.depth (placed names c.args.tokens.now) (placed names c.in_ok-of.rest.now) (type_of names c.in_ok-of.of) _ (c.in_ok-of.ensures.gives names) (sym (c.begins_mark.ensures names) ∙ c.if-begins_mark.true))
    (c.in_ok-word.ensures.gives names)

pub returns-clause-gives : goal.returns-clause-gives
returns-clause-gives c = λ names.
    let b = base_type names c.args.base in
    let a = onward _ _ _ _ (first_steps b c.args.depth (placed names c.args.tokens.now)) (c.in_ok-of.ensures.gives names) in
    gives_as _ c.named.result _ _ (a ∙ named_behind b c.args.depth (type_of names c.in_ok-of.of) (placed names c.in_ok-of.rest.now) (sym (c.begins_mark.ensures names) ∙ c.if-begins_mark.false)) (c.named.ensures.gives names)
