use Rattle.std.proofs.Common.{[], ◌∷◌, map, ap, sym, ◌∙◌}
use Rattle.std.proofs.lemmas.List.{map-append}
use Rattle.cpc_tree.specs.Locate.{located_item}
use Rattle.cpc_tree.specs.declared.program.Item.TheVariants as I
use Rattle.cpc_parser_types.specs.TypeViews.{base_type}
use Rattle.cpc_parser_types.specs.Views.{placed}
use Rattle.cpc_parser.specs.ItemViews.{onto, variable_of, row_at}
use Rattle.cpc_parser.proofs.Steps.{onward, gives_as, globals_steps}
use Rattle.cpc_parser.proofs.declaration.globals.Goals as goal

pub returns-clause-gives : goal.returns-clause-gives
returns-clause-gives c = λ names.
    let f = located_item names in
    let old = c.args.all.now.items in
    let b = base_type names c.args.base in
    let rest = placed names c.in_ok-start.rest.now in
    let a = onward _ _ _ _ (globals_steps (map f old) b (variable_of names c.args.word c.args.of) c.args.depth (placed names c.args.tokens.now)) (c.in_ok-start.ensures.gives names) in
    let e = sym (map-append f old (I.Global c.args.word c.args.of c.in_ok-start.start ∷ [])) ∙ ap (map f) (sym c.in_ok-push.ensures.items) in
    gives_as _ c.further.result _ _ (a ∙ ap (λ l. onto l (row_at b c.args.depth) rest) e) (c.further.ensures.gives names)
