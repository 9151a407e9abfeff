use Rattle.std.proofs.Common.{[], ap, ◌∙◌, map}
use Rattle.cpc_tree.specs.Erase.{item_of}
use Rattle.cpc_tree.specs.Locate.{located_item}
use Rattle.cpc_check_rules.specs.Noted.{noted, first_of}
use Rattle.cpc_check_parts.specs.ItemParts.{items_beside}
use Rattle.cpc_check_parts.proofs.Rows.{noted_whole}
use Rattle.cpc_check_parts.proofs.beside.whole_rules.Goals as goal

pub returns : goal.returns
returns c = λ names spells.
    let p = c.args.program.now in
    noted_whole c.args.dialect names p.items.items p.end (first_of c.items_beside.new.first) (first_of c.main_rules.new.first) (first_of c.breadth_rules.new.first) c.deref.result.now c.deref-2.result.now c.deref.ensures.value c.deref-2.ensures.value
    (c.in_ok-items_beside.ensures names spells.apart ∙ ap (λ o. noted o (items_beside (map (item_of names) p.items.items) [] (map (located_item names) p.items.items))) c.new-first.ensures) (c.main_rules.ensures.spelled names spells) (c.in_ok-breadth_rules.ensures names)
