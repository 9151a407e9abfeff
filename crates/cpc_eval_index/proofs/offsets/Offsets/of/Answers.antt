use Rattle.std.proofs.Common.{◌∙◌, map}
use Rattle.cpc_tree.specs.Erase.{item_of}
use Rattle.cpc_types_structs.proofs.Known.{all_known}
use Rattle.cpc_eval_index.specs.Offsets.{item_offsets}
use Rattle.cpc_eval_index.proofs.FieldRows.{rows_more}
use Rattle.cpc_eval_index.proofs.offsets.Offsets.of.Goals as goal

pub loop-item-preserved : goal.loop-item-preserved
loop-item-preserved c = λ names apart.
    let xs = c.args.list.now in
    let p = map (item_of names) xs in
    rows_more (λ row. row.items) (item_offsets names p) c.loop-item.rows.items c.push.new.self.items c.in_ok-row.row xs c.loop-item.item-index c.item-item.result c.loop-item-test.true c.item-item.is c.in_ok-push.ensures.items
    (c.in_ok-row.ensures names p (all_known names apart xs c.args.structs.now c.requires))
    ∙ c.loop-item.invariant names apart
