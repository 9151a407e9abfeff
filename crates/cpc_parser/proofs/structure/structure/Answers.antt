use Rattle.std.proofs.Common.{[], ◌∷◌, map, ap, sym, ◌∙◌}
use Rattle.std.proofs.lemmas.List.{map-append}
use Rattle.cpc_tree.specs.Locate.{ident, located_item}
use Rattle.cpc_tree.specs.declared.program.Item.TheVariants as I
use Rattle.cpc_parser_reading.specs.Reading.{Read}
use Rattle.cpc_parser_types.specs.Views.{placed}
use Rattle.cpc_parser_types.proofs.Giving.{err_through}
use Rattle.cpc_parser.proofs.Steps.{onward}
use Rattle.cpc_parser.proofs.FieldSteps.{structure_steps}
use Rattle.cpc_parser.proofs.structure.structure.Goals as goal

pub returns-in_err-rest-clause-gives : goal.returns-in_err-rest-clause-gives
returns-in_err-rest-clause-gives c = λ names.
    err_through _ c.from_residual.result c.in_err-rest.field-0.0 _ _ _ c.from_residual.ensures.1 (c.in_err-rest.ensures.gives names) (structure_steps (map (located_item names) c.args.all.now.items) (ident names c.args.tag) c.args.depth (placed names c.args.tokens.now))

pub returns-in_err-fields-clause-gives : goal.returns-in_err-fields-clause-gives
returns-in_err-fields-clause-gives c = λ names.
    let a = onward _ _ _ _ (structure_steps (map (located_item names) c.args.all.now.items) (ident names c.args.tag) c.args.depth (placed names c.args.tokens.now)) (c.in_ok-rest.ensures.gives names) in
    err_through _ c.from_residual-in_err-fields.result c.in_err-fields.field-0.0 _ _ _ c.from_residual-in_err-fields.ensures.1 (c.in_err-fields.ensures.gives names) a

pub returns-in_err-rest-2-clause-gives : goal.returns-in_err-rest-2-clause-gives
returns-in_err-rest-2-clause-gives c = λ names.
    let a = onward _ _ _ _ (structure_steps (map (located_item names) c.args.all.now.items) (ident names c.args.tag) c.args.depth (placed names c.args.tokens.now)) (c.in_ok-rest.ensures.gives names) in
    let b = onward _ _ _ _ a (c.in_ok-fields.ensures.gives names) in
    err_through _ c.from_residual-in_err-rest-2.result c.in_err-rest-2.field-0.0 _ _ _ c.from_residual-in_err-rest-2.ensures.1 (c.in_err-rest-2.ensures.gives names) b

pub returns-in_err-rest-3-clause-gives : goal.returns-in_err-rest-3-clause-gives
returns-in_err-rest-3-clause-gives c = λ names.
    let a = onward _ _ _ _ (structure_steps (map (located_item names) c.args.all.now.items) (ident names c.args.tag) c.args.depth (placed names c.args.tokens.now)) (c.in_ok-rest.ensures.gives names) in
    let b = onward _ _ _ _ (onward _ _ _ _ a (c.in_ok-fields.ensures.gives names)) (c.in_ok-rest-2.ensures.gives names) in
    err_through _ c.from_residual-in_err-rest-3.result c.in_err-rest-3.field-0.0 _ _ _ c.from_residual-in_err-rest-3.ensures.1 (c.in_err-rest-3.ensures.gives names) b

pub returns-clause-gives : goal.returns-clause-gives
returns-clause-gives c = λ names.
    let f = located_item names in
    let old = c.args.all.now.items in
    let a = onward _ _ _ _ (structure_steps (map f old) (ident names c.args.tag) c.args.depth (placed names c.args.tokens.now)) (c.in_ok-rest.ensures.gives names) in
    let b = onward _ _ _ _ (onward _ _ _ _ a (c.in_ok-fields.ensures.gives names)) (c.in_ok-rest-2.ensures.gives names) in
    onward _ _ _ _ b (c.in_ok-rest-3.ensures.gives names)
    ∙ ap (λ u. Read (u, 0, placed names c.in_ok-rest-3.rest.now)) (sym (map-append f old (I.Struct c.args.tag c.in_ok-fields.fields ∷ [])) ∙ ap (map f) (sym c.in_ok-push.ensures.items))
