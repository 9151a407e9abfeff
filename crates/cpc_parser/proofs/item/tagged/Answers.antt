use Rattle.std.proofs.Common.{map, sym, ◌∙◌}
use Rattle.cpc_tree.specs.Locate.{ident, located_item}
use Rattle.cpc_parser_types.specs.Views.{placed}
use Rattle.cpc_parser_types.proofs.Giving.{err_through}
use Rattle.cpc_parser.proofs.Steps.{onward, gives_as, tagged_steps, brace_so, brace_not}
use Rattle.cpc_parser.proofs.item.tagged.Goals as goal

pub returns-in_err-tag-clause-gives : goal.returns-in_err-tag-clause-gives
returns-in_err-tag-clause-gives c = λ names.
    err_through _ c.from_residual.result c.in_err-tag.field-0.0 _ _ _ c.from_residual.ensures.1 (c.in_err-tag.ensures.gives names) (tagged_steps (map (located_item names) c.args.all.now.items) c.args.place c.args.depth (placed names c.args.tokens.now))

pub returns-then-begins_mark-clause-gives : goal.returns-then-begins_mark-clause-gives
returns-then-begins_mark-clause-gives c = λ names.
    let old = map (located_item names) c.args.all.now.items in
    let a = onward _ _ _ _ (tagged_steps old c.args.place c.args.depth (placed names c.args.tokens.now)) (c.in_ok-tag.ensures.gives names) in
    let b = a ∙ brace_so old c.args.place c.args.depth (ident names c.in_ok-tag.tag) (placed names c.in_ok-tag.rest.now) (sym (c.begins_mark.ensures names) ∙ c.if-begins_mark.true) in
    gives_as _ c.structure.result _ _ b (c.structure.ensures.gives names)

pub returns-clause-gives : goal.returns-clause-gives
returns-clause-gives c = λ names.
    let old = map (located_item names) c.args.all.now.items in
    let a = onward _ _ _ _ (tagged_steps old c.args.place c.args.depth (placed names c.args.tokens.now)) (c.in_ok-tag.ensures.gives names) in
    let b = a ∙ brace_not old c.args.place c.args.depth (ident names c.in_ok-tag.tag) (placed names c.in_ok-tag.rest.now) (sym (c.begins_mark.ensures names) ∙ c.if-begins_mark.false) in
    gives_as _ c.plain.result _ _ b (c.plain.ensures.gives names)
