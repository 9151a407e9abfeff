use Rattle.std.proofs.Common.{◌≡◌, ◌≤◌, [], length, map, Some, ap, sym, subst, refl, ◌∙◌, arith}
use Rattle.std.specs.Prelude.{slice_get}
use Rattle.std.proofs.lemmas.Option.{slice_get_read}
use Rattle.cpc_tree.specs.Erase.{item_of}
use Rattle.cpc_tree.specs.Locate.{located_item}
use Rattle.cpc_check_rules.specs.Noted.{noted, first_of}
use Rattle.cpc_check_rules.specs.ItemRules as R
use Rattle.cpc_types.specs.Scoped.{all_items, first_items}
use Rattle.cpc_check_items.specs.Pasts.{AreEarlier}
use Rattle.cpc_types_structs.specs.Declares.{AreAllDeclared}
use Rattle.cpc_check.proofs.Parts.{next_items, noted_left, none_left}
use Rattle.cpc_check.proofs.checking.note_items.Goals as goal

pub loop-i-init : goal.loop-i-init
loop-i-init c = record { all = c.in_ok-scope.ensures.all; items = c.deref-item-items.ensures.value; noted = λ names spells. refl; earlier = λ names apart. c.new-earlier.ensures names }

pub enter_items-requires : goal.enter_items-requires
enter_items-requires c = omega (arith, c.loop-i-test.true, ap length c.loop-i.invariant.all, ap length c.loop-i.invariant.items)

pub item_rules-requires-clause-stands : goal.item_rules-requires-clause-stands
item_rules-requires-clause-stands c =
    let read = slice_get_read c.deref-item-items.result.now (length c.deref-item-items.result.now) c.loop-i.i c.item-item.result refl c.loop-i-test.true c.item-item.is in
    subst (λ xs. slice_get xs c.loop-i.i ≡ Some c.item-item.result) (c.loop-i.invariant.items ∙ sym (c.enter_items.ensures.all ∙ c.loop-i.invariant.all)) read

pub item_rules-requires-clause-entered : goal.item_rules-requires-clause-entered
item_rules-requires-clause-entered c = λ names. c.enter_items.ensures.scope names ∙ ap (λ xs. record { items = first_items names c.loop-i.i xs; blocks = [] }) (sym c.enter_items.ensures.all)

pub loop-i-preserved : goal.loop-i-preserved
loop-i-preserved c =
    let xs = c.args.program.now.items.items in
    let i = c.loop-i.i in
    let x = c.item-item.result in
    let all : all_items c.enter_items.new.self ≡ xs = c.enter_items.ensures.all ∙ c.loop-i.invariant.all in
    let read = slice_get_read c.deref-item-items.result.now (length c.deref-item-items.result.now) i x refl c.loop-i-test.true c.item-item.is in
    let there : slice_get xs i ≡ Some x = subst (λ ys. slice_get ys i ≡ Some x) c.loop-i.invariant.items read in
    record {
      all = c.item_rules.ensures.all ∙ all;
      items = c.loop-i.invariant.items;
      noted = λ names spells.
          let program = map (item_of names) xs in
          let earlier : AreEarlier names (first_items names i (all_items c.enter_items.new.self)) c.loop-i.earlier = subst (λ ys. AreEarlier names (first_items names i ys) c.loop-i.earlier) (sym all) (c.loop-i.invariant.earlier names spells.apart) in
          let here = subst (λ ys. first_of c.item_rules.new.first ≡ noted (first_of c.loop-i.first) (R.item_breaks c.args.dialect (map (item_of names) ys) (first_items names i ys) (located_item names x))) all (c.in_ok-item_rules.ensures.noted names spells earlier) in
          noted_left c.args.dialect names program xs i x _ (first_of c.loop-i.first) (first_of c.item_rules.new.first) there here (c.loop-i.invariant.noted names spells);
      earlier = λ names apart. subst (λ b. AreEarlier names b c.add.new.self) (sym (next_items names xs i x there)) (c.in_ok-add.ensures names apart (first_items names i xs) (c.loop-i.invariant.earlier names apart));
    }

pub returns-clause-noted : goal.returns-clause-noted
returns-clause-noted c = λ names spells.
    let xs = c.args.program.now.items.items in
    let program = map (item_of names) xs in
    let past : length xs ≤ c.loop-i.i = omega (arith, c.loop-i-test.false, ap length c.loop-i.invariant.items) in
    sym (none_left c.args.dialect names program xs c.loop-i.i (first_of c.loop-i.first) past) ∙ c.loop-i.invariant.noted names spells

pub returns-clause-declared : goal.returns-clause-declared
returns-clause-declared c = subst (λ xs. AreAllDeclared xs c.into_declared.result) c.loop-i.invariant.all c.into_declared.ensures
