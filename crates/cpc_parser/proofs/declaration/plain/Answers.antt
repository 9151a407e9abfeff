use Rattle.std.proofs.Common.{[], ◌∷◌, map, ap, sym, ◌∙◌}
use Rattle.std.proofs.lemmas.List.{map-append}
use Rattle.cpc_tree.specs.Locate.{located_item}
use Rattle.cpc_parser_reading.specs.Reading.{Read}
use Rattle.cpc_parser_types.specs.TypeViews.{base_type}
use Rattle.cpc_parser_types.specs.Views.{placed}
use Rattle.cpc_parser.specs.ItemViews.{head_view, seen_view}
use Rattle.cpc_parser.proofs.Steps.{onward, gives_as, plain_steps, native_steps}
use Rattle.cpc_parser.proofs.declaration.plain.Goals as goal

pub returns-in-Variable-clause-gives : goal.returns-in-Variable-clause-gives
returns-in-Variable-clause-gives c = λ names.
    let old = map (located_item names) c.args.all.now.items in
    let rest = placed names c.in_ok-seen.rest.now in
    let g = c.in_ok-seen.ensures.gives names ∙ ap (λ s. Read (seen_view names s, 0, rest)) c.in-Variable.is in
    let a = onward _ _ _ _ (plain_steps old c.args.place (base_type names c.args.base) c.args.depth (placed names c.args.tokens.now)) g in
    gives_as _ c.globals.result _ _ a (c.globals.ensures.gives names)

pub returns-in_ok-push-in-Function-clause-gives : goal.returns-in_ok-push-in-Function-clause-gives
returns-in_ok-push-in-Function-clause-gives c = λ names.
    let f = located_item names in
    let old = c.args.all.now.items in
    let b = base_type names c.args.base in
    let rest = placed names c.in_ok-seen.rest.now in
    let x = head_view names c.in-Function.head.word c.in-Function.head.result c.in-Function.head.parameters.items in
    let g = c.in_ok-seen.ensures.gives names ∙ ap (λ s. Read (seen_view names s, 0, rest)) c.in-Function.is in
    let a = onward _ _ _ _ (plain_steps (map f old) c.args.place b c.args.depth (placed names c.args.tokens.now)) g in
    let h = onward _ _ _ _ (a ∙ native_steps (map f old) c.args.place b c.args.depth x rest) (c.in_ok-whole-in-Function.ensures.gives names) in
    h ∙ ap (λ v. Read (v, 0, placed names c.in_ok-whole-in-Function.rest.now)) (sym (map-append f old (c.in_ok-whole-in-Function.whole ∷ [])) ∙ ap (map f) (sym c.in_ok-push-in-Function.ensures.items))
