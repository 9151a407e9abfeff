use Rattle.std.proofs.Common.{◌≡◌, ◌≤◌, length, map, Some, ap, sym, subst, refl, ◌∙◌, arith}
use Rattle.std.specs.Prelude.{slice_get}
use Rattle.std.proofs.lemmas.Option.{slice_get_read}
use Rattle.cpc_tree.specs.Erase.{item_of}
use Rattle.cpc_tree.specs.Locate.{located_item}
use Rattle.cpc_check_rules.specs.Noted.{noted, first_of}
use Rattle.cpc_types.specs.Scoped.{all_items, first_items, scope_of}
use Rattle.cpc_check_items.specs.Pasts.{AreEarlier}
use Rattle.cpc_check.proofs.Parts.{next_items}
use Rattle.cpc_check_parts.specs.ItemParts.{item_beside}
use Rattle.cpc_check_parts.proofs.Rows.{noted_left, none_left}
use Rattle.cpc_check_parts.proofs.beside.items_beside.Goals as goal

pub loop-i-init : goal.loop-i-init
loop-i-init c = record { all = c.in_ok-scope.ensures.all; items = c.deref-item-items.ensures.value; noted = λ names apart. refl; earlier = λ names apart. c.new-earlier.ensures names }

pub enter_items-requires : goal.enter_items-requires
enter_items-requires c = omega (arith, c.loop-i-test.true, ap length c.loop-i.invariant.all, ap length c.loop-i.invariant.items)

pub loop-i-preserved : goal.loop-i-preserved
loop-i-preserved c =
    let xs = c.args.program.now.items.items in
    let i = c.loop-i.i in
    let x = c.item-item.result in
    let all : all_items c.enter_items.new.self ≡ xs = c.enter_items.ensures.all ∙ c.loop-i.invariant.all in
    let read = slice_get_read c.deref-item-items.result.now (length c.deref-item-items.result.now) i x refl c.loop-i-test.true c.item-item.is in
    let there : slice_get xs i ≡ Some x = subst (λ ys. slice_get ys i ≡ Some x) c.loop-i.invariant.items read in
    record {
      all = all;
      items = c.loop-i.invariant.items;
      noted = λ names apart.
          let program = map (item_of names) xs in
          let scope : (scope_of names c.enter_items.new.self).items ≡ first_items names i xs = ap (λ s. s.items) (c.enter_items.ensures.scope names) ∙ ap (first_items names i) c.loop-i.invariant.all in
          let earlier : AreEarlier names (scope_of names c.enter_items.new.self).items c.loop-i.earlier = subst (λ b. AreEarlier names b c.loop-i.earlier) (sym scope) (c.loop-i.invariant.earlier names apart) in
          let told = subst (λ ys. first_of c.item_beside.new.first ≡ noted (first_of c.loop-i.first) (item_beside (map (item_of names) ys) (scope_of names c.enter_items.new.self).items (located_item names x))) all (c.item_beside.ensures names apart earlier) in
          let here = subst (λ b. first_of c.item_beside.new.first ≡ noted (first_of c.loop-i.first) (item_beside program b (located_item names x))) scope told in
          noted_left names program xs i x _ (first_of c.loop-i.first) (first_of c.item_beside.new.first) there here (c.loop-i.invariant.noted names apart);
      earlier = λ names apart. subst (λ b. AreEarlier names b c.add.new.self) (sym (next_items names xs i x there)) (c.in_ok-add.ensures names apart (first_items names i xs) (c.loop-i.invariant.earlier names apart));
    }

pub returns : goal.returns
returns c = λ names apart.
    let xs = c.args.program.now.items.items in
    let program = map (item_of names) xs in
    let past : length xs ≤ c.loop-i.i = omega (arith, c.loop-i-test.false, ap length c.loop-i.invariant.items) in
    sym (none_left names program xs c.loop-i.i (first_of c.loop-i.first) past) ∙ c.loop-i.invariant.noted names apart
