use Rattle.std.proofs.Common.{sym, ◌∙◌}
use Rattle.cpc_tree.specs.Erase.{type_of}
use Rattle.cpc_tree.specs.Locate.{ident}
use Rattle.cpc_parser_types.specs.Views.{placed}
use Rattle.cpc_parser_types.proofs.Giving.{err_through}
use Rattle.cpc_parser.proofs.Steps.{onward}
use Rattle.cpc_parser.proofs.FirstSteps.{name_steps, name_called, name_sized}
use Rattle.cpc_parser.proofs.first.named.Goals as goal

pub returns-in_err-word-clause-gives : goal.returns-in_err-word-clause-gives
returns-in_err-word-clause-gives c = λ names.
    err_through _ c.from_residual.result c.in_err-word.field-0.0 _ _ _ c.from_residual.ensures.1 (c.in_err-word.ensures.gives names) (name_steps (type_of names c.args.of) c.args.depth (placed names c.args.tokens.now))

pub returns-in_err-parameters-clause-gives : goal.returns-in_err-parameters-clause-gives
returns-in_err-parameters-clause-gives c = λ names.
    let a = onward _ _ _ _ (name_steps (type_of names c.args.of) c.args.depth (placed names c.args.tokens.now)) (c.in_ok-word.ensures.gives names) in
    err_through _ c.from_residual-in_err-parameters.result c.in_err-parameters.field-0.0 _ _ _ c.from_residual-in_err-parameters.ensures.1 (c.in_err-parameters.ensures.gives names)
    (a ∙ name_called (type_of names c.args.of) c.args.depth (ident names c.in_ok-word.word) (placed names c.in_ok-word.rest.now) (sym (c.begins_mark.ensures names) ∙ c.if-begins_mark.true))

pub returns-then-begins_mark-clause-gives : goal.returns-then-begins_mark-clause-gives
returns-then-begins_mark-clause-gives c = λ names.
    let a = onward _ _ _ _ (name_steps (type_of names c.args.of) c.args.depth (placed names c.args.tokens.now)) (c.in_ok-word.ensures.gives names) in
    onward _ _ _ _ (a ∙ name_called (type_of names c.args.of) c.args.depth (ident names c.in_ok-word.word) (placed names c.in_ok-word.rest.now) (sym (c.begins_mark.ensures names) ∙ c.if-begins_mark.true)) (c.in_ok-parameters.ensures.gives names)

pub returns-in_err-of-clause-gives : goal.returns-in_err-of-clause-gives
returns-in_err-of-clause-gives c = λ names.
    let a = onward _ _ _ _ (name_steps (type_of names c.args.of) c.args.depth (placed names c.args.tokens.now)) (c.in_ok-word.ensures.gives names) in
    err_through _ c.from_residual-in_err-of.result c.in_err-of.field-0.0 _ _ _ c.from_residual-in_err-of.ensures.1 (c.in_err-of.ensures.gives names c.args.depth)
    (a ∙ name_sized (type_of names c.args.of) c.args.depth (ident names c.in_ok-word.word) (placed names c.in_ok-word.rest.now) (sym (c.begins_mark.ensures names) ∙ c.if-begins_mark.false))

pub returns-clause-gives : goal.returns-clause-gives
returns-clause-gives c = λ names.
    let a = onward _ _ _ _ (name_steps (type_of names c.args.of) c.args.depth (placed names c.args.tokens.now)) (c.in_ok-word.ensures.gives names) in
    onward _ _ _ _ (a ∙ name_sized (type_of names c.args.of) c.args.depth (ident names c.in_ok-word.word) (placed names c.in_ok-word.rest.now) (sym (c.begins_mark.ensures names) ∙ c.if-begins_mark.false)) (c.in_ok-of.ensures.gives names c.args.depth)
