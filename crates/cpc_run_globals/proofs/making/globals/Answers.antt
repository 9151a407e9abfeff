use Rattle.std.proofs.Common.{◌≡◌, ◌<◌, length, get_or, arith, map, drop, ◌+◌, ap, sym, ◌∙◌}
use Rattle.cpc_tree.specs.Erase.{item_of}
use Rattle.cpc_eval_values.specs.Shown.{store_of}
use Rattle.cpc_run_globals.proofs.Stopping.{stopped}
use Rattle.cpc_run_globals.proofs.making.globals.Goals as goal

pub returns-then-not-branch : goal.returns-then-not-branch
returns-then-not-branch c = λ names apart are.
    let items = c.args.program.now.items.items in
    let i = c.loop-item.item-index in
    let lt : i < length items = omega (arith, ap length c.deref-item-items.ensures.value) in
    let is : c.item-item.result ≡ get_or items i c.item-item.result = cc (c.item-item.is, c.deref-item-items.ensures.value) in
    ap (store_of names) c.new.ensures
    ∙ sym (stopped names items i c.item-item.result c.in_ok-add.field-0 _ (store_of names c.loop-item.store) (store_of names c.add.new.store) lt is c.if-not-branch.true (c.loop-item.invariant names apart are) (c.in_ok-add.ensures names (map (item_of names) items) (map (item_of names) (drop (i + 1) items)) are))
