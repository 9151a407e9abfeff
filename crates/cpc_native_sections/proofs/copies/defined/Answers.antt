use Rattle.std.proofs.Common.{◌+◌, drop, map, refl, sym, ap, ◌∙◌}
use Rattle.std.proofs.lemmas.List.{drop_all}
use Rattle.cpc_base.proofs.Lists.{drop_to_item}
use Rattle.cpc_tree.specs.Erase.{function_of, item_of}
use Rattle.cpc_tree.specs.Typing.{function_named}
use Rattle.cpc_native_sections.proofs.Finding.{is_found, goes_past}
use Rattle.cpc_native_sections.proofs.copies.defined.Goals as goal

pub loop-item-init : goal.loop-item-init
loop-item-init c = λ names apart. refl

pub returns-then-is_some : goal.returns-then-is_some
returns-then-is_some c = λ names apart.
    let xs = c.args.items.now in
    let i = c.loop-item.item-index in
    let x = names c.args.name in
    let rest = map (item_of names) (drop (i + 1) xs) in
    sym (c.loop-item.invariant names apart
    ∙ ap (λ ys. function_named (map (item_of names) ys) x) (drop_to_item xs i c.item-item.result c.loop-item-test.true c.item-item.is)
    ∙ c.defines-found.ensures names apart rest
    ∙ is_found (λ f. function_of names f.now) c.defines-found.result rest x c.if-is_some.ensures)

pub loop-item-preserved : goal.loop-item-preserved
loop-item-preserved c = λ names apart.
    let xs = c.args.items.now in
    let i = c.loop-item.item-index in
    let x = names c.args.name in
    let rest = map (item_of names) (drop (i + 1) xs) in
    c.loop-item.invariant names apart
    ∙ ap (λ ys. function_named (map (item_of names) ys) x) (drop_to_item xs i c.item-item.result c.loop-item-test.true c.item-item.is)
    ∙ c.defines-found.ensures names apart rest
    ∙ goes_past (λ f. function_of names f.now) c.defines-found.result rest x c.if-is_some.ensures

pub returns : goal.returns
returns c = λ names apart.
    let xs = c.args.items.now in
    sym (c.loop-item.invariant names apart ∙ ap (λ ys. function_named (map (item_of names) ys) (names c.args.name)) (drop_all c.loop-item.item-index xs c.loop-item-test.false))
