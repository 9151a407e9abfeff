use Rattle.std.proofs.Common.{[], ap, ◌∙◌, map}
use Rattle.cpc_tree.specs.Erase.{item_of}
use Rattle.cpc_tree.specs.Locate.{located_item}
use Rattle.cpc_check_rules.specs.ItemRules as R
use Rattle.cpc_check_rules.specs.Noted.{noted, first_of}
use Rattle.cpc_check.proofs.Parts.{noted_program}
use Rattle.cpc_check.proofs.checking.first_broken.Goals as goal

pub returns-clause-noted : goal.returns-clause-noted
returns-clause-noted c = λ names spells.
    let p = c.args.program.now in
    noted_program c.args.dialect names p.items.items p.end (first_of c.note_items.new.first) (first_of c.main_rules.new.first) (first_of c.breadth_rules.new.first) c.deref.result.now c.deref-2.result.now c.deref.ensures.value c.deref-2.ensures.value
    (c.in_ok-declared.ensures.noted names spells ∙ ap (λ o. noted o (R.items_breaks c.args.dialect (map (item_of names) p.items.items) [] (map (located_item names) p.items.items))) c.new-first.ensures) (c.main_rules.ensures.spelled names spells) (c.in_ok-breadth_rules.ensures names)
