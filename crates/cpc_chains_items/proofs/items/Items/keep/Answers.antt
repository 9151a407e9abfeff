use Rattle.std.proofs.Common.{◌∙◌, ◌++◌, map, sym, ap}
use Rattle.std.proofs.lemmas.List.{append-nil, take_all}
use Rattle.cpc_tree.specs.Erase.{in_table, item_of}
use Rattle.cpc_convert_routines.specs.Kept.{kept_items}
use Rattle.cpc_chains_items.specs.Listed.{listed}
use Rattle.cpc_chains_items.proofs.Keeping.{agree_at, keep_more}
use Rattle.cpc_chains_items.proofs.items.Items.keep.Goals as goal

pub loop-item-preserved : goal.loop-item-preserved
loop-item-preserved c = λ table to b e.
    let i = c.loop-item.item-index in
    let x = c.item-item.result in
    keep_more (item_of to) _ _ _ c.args.source.now i x c.loop-item-test.true c.item-item.is (c.loop-item.invariant table to b e)
    (c.in_ok-keep_one.ensures table to b (agree_at (item_of (in_table table)) (item_of to) c.args.source.now i x e c.loop-item-test.true c.item-item.is))

pub loop-item-init : goal.loop-item-init
loop-item-init c = λ table to b e. sym (append-nil (listed to c.args.self.now))

pub returns : goal.returns
returns c = λ table to b e. c.loop-item.invariant table to b e ∙ ap (λ u. listed to c.args.self.now ++ kept_items (map (item_of to) u)) (take_all _ c.args.source.now c.loop-item-test.false)
