use Rattle.std.proofs.Common.{◌≡◌, ◌+◌, ◌<◌, ◌≤◌, length, get_or, drop, map, option_map, Some, arith, ap, sym, subst, ◌∙◌}
use Rattle.cpc_tree.specs.Erase.{item_of}
use Rattle.cpc_eval_index.specs.Sized.{capped}
use Rattle.cpc_run_globals.specs.Counts.{item_cells, all_cells}
use Rattle.cpc_run_globals.proofs.Counted.{all_stored, none_stored, next_stored}
use Rattle.cpc_run_globals.proofs.counts.global_cells.Goals as goal

pub returns-in-None : goal.returns-in-None
returns-in-None c = λ names apart.
    let items = c.args.program.now.items.items in
    let i = c.loop-item.item-index in
    let lt : i < length items = omega (arith, ap length c.deref-item-items.ensures.value) in
    let is : c.item-item.result ≡ get_or items i c.item-item.result = cc (c.item-item.is, c.deref-item-items.ensures.value) in
    none_stored names items c.args.index.now.program.now.items.items c.requires i c.item-item.result c.loop-item.total lt is (c.loop-item.invariant.rest names apart) (c.in-None.ensures names apart)

pub returns : goal.returns
returns c = λ names apart.
    let items = c.args.program.now.items.items in
    let le : length items ≤ c.loop-item.item-index = omega (arith, ap length c.deref-item-items.ensures.value) in
    all_stored names items c.loop-item.item-index c.loop-item.total le c.loop-item.invariant.low (c.loop-item.invariant.rest names apart)

pub loop-item-preserved : goal.loop-item-preserved
loop-item-preserved c = record {
  low = omega (arith, c.saturating_add-total.ensures);
  rest = λ names apart.
      let items = c.args.program.now.items.items in
      let i = c.loop-item.item-index in
      let lt : i < length items = omega (arith, ap length c.deref-item-items.ensures.value) in
      let is : c.item-item.result ≡ get_or items i c.item-item.result = cc (c.item-item.is, c.deref-item-items.ensures.value) in
      let whole = map (item_of names) items in
      let here : Some c.in-Some.count ≡ option_map capped (item_cells (map (item_of names) c.args.index.now.program.now.items.items) (item_of names c.item-item.result)) = sym c.in-Some.is ∙ c.item_cells.ensures names apart in
      subst (λ t. option_map capped (all_cells whole whole) ≡ option_map (λ n. capped (t + n)) (all_cells whole (map (item_of names) (drop (i + 1) items)))) (sym c.saturating_add-total.ensures)
      (next_stored names items c.args.index.now.program.now.items.items c.requires i c.item-item.result c.loop-item.total lt is c.in-Some.count (c.loop-item.invariant.rest names apart) here);
}
