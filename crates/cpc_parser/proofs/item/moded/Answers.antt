use Rattle.std.proofs.Common.{[], ◌∷◌, map, ap, sym, ◌∙◌}
use Rattle.std.proofs.lemmas.List.{map-append}
use Rattle.cpc_tree.specs.Locate.{located_item}
use Rattle.cpc_parser_reading.specs.Reading.{Read}
use Rattle.cpc_parser_types.specs.Views.{placed}
use Rattle.cpc_parser_types.proofs.Giving.{err_through}
use Rattle.cpc_parser.proofs.Steps.{onward, moded_steps}
use Rattle.cpc_parser.proofs.item.moded.Goals as goal

pub returns-in_err-head-clause-gives : goal.returns-in_err-head-clause-gives
returns-in_err-head-clause-gives c = λ names.
    err_through _ c.from_residual.result c.in_err-head.field-0.0 _ _ _ c.from_residual.ensures.1 (c.in_err-head.ensures.gives names) (moded_steps (map (located_item names) c.args.all.now.items) c.args.place c.args.mode c.args.depth (placed names c.args.tokens.now))

pub returns-in_err-whole-clause-gives : goal.returns-in_err-whole-clause-gives
returns-in_err-whole-clause-gives c = λ names.
    err_through _ c.from_residual-in_err-whole.result c.in_err-whole.field-0.0 _ _ _ c.from_residual-in_err-whole.ensures.1 (c.in_err-whole.ensures.gives names)
    (onward _ _ _ _ (moded_steps (map (located_item names) c.args.all.now.items) c.args.place c.args.mode c.args.depth (placed names c.args.tokens.now)) (c.in_ok-head.ensures.gives names))

pub returns-clause-gives : goal.returns-clause-gives
returns-clause-gives c = λ names.
    let f = located_item names in
    let old = c.args.all.now.items in
    let a = onward _ _ _ _ (onward _ _ _ _ (moded_steps (map f old) c.args.place c.args.mode c.args.depth (placed names c.args.tokens.now)) (c.in_ok-head.ensures.gives names)) (c.in_ok-whole.ensures.gives names) in
    a ∙ ap (λ v. Read (v, 0, placed names c.in_ok-whole.rest.now)) (sym (map-append f old (c.in_ok-whole.whole ∷ [])) ∙ ap (map f) (sym c.in_ok-push.ensures.items))
