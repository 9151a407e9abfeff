use Rattle.std.proofs.Common.{◌≡◌, [], Some, ap, sym, subst, ◌∙◌}
use Rattle.std.specs.Prelude.{slice_get}
use Rattle.cpc_tree.specs.Locate.{located_item}
use Rattle.cpc_check_rules.specs.Noted.{noted, first_of}
use Rattle.cpc_types.specs.Scoped.{first_items}
use Rattle.cpc_check_parts.specs.ItemParts.{item_own}
use Rattle.cpc_check_parts.proofs.Rows.{own_is}
use Rattle.cpc_check_parts.proofs.faults.item_first.Goals as goal

pub own_rules-requires-clause-stands : goal.own_rules-requires-clause-stands
own_rules-requires-clause-stands c =
    subst (λ xs. slice_get xs c.args.item ≡ Some c.item_at-here.result.now) (c.deref.ensures.value ∙ sym (c.enter_items.ensures.all ∙ c.in_ok-scope.ensures.all)) c.item_at-here.ensures

pub own_rules-requires-clause-entered : goal.own_rules-requires-clause-entered
own_rules-requires-clause-entered c = λ names. c.enter_items.ensures.scope names ∙ ap (λ xs. record { items = first_items names c.args.item xs; blocks = [] }) (sym c.enter_items.ensures.all)

pub returns : goal.returns
returns c = λ names spells.
    let p = c.args.program.now in
    let xs = p.items.items in
    let i = c.args.item in
    let d = c.args.dialect in
    let x = c.item_at-here.result.now in
    let there : slice_get xs i ≡ Some x = subst (λ ys. slice_get ys i ≡ Some x) c.deref.ensures.value c.item_at-here.ensures in
    let told = subst (λ ys. first_of c.own_rules.new.first ≡ noted (first_of c.new-first.result) (item_own d (first_items names i ys) (located_item names x))) (c.enter_items.ensures.all ∙ c.in_ok-scope.ensures.all) (c.in_ok-own_rules.ensures.noted names spells) in
    told ∙ ap (λ o. noted o (item_own d (first_items names i xs) (located_item names x))) c.new-first.ensures ∙ ap (noted _) (sym (own_is d names p i x there))
