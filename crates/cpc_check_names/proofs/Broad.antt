-- How broad the items of a program are, one by one.
use Rattle.std.proofs.Common.{◌≡◌, ℕ, ◌+◌, ◌<◌, ◌≤◌, List, ◌∷◌, length, get_or, drop, map, ap, ◌∙◌, Option}
use Rattle.std.specs.Prelude.{nat_lt, if◌then◌else◌}
use Rattle.std.proofs.lemmas.List.{drop_all}
use Rattle.cpc_base.specs.declared.stop.Place.{Place}
use Rattle.cpc_base.proofs.Lists.{drop_to_item}
use Rattle.cpc_tree.specs.declared.program.Item.{Item}
use Rattle.cpc_tree.specs.Located.{LItem}
use Rattle.cpc_tree.specs.Erase.{Names}
use Rattle.cpc_tree.specs.Locate.{located_item}
use Rattle.cpc_check_rules.specs.declared.rule.Rule.{Rule}
use Rattle.cpc_check_rules.specs.Rules.{breadth_limit, broad_breaks}
use Rattle.cpc_check_rules.specs.Noted.{noted}

abbrev Firsts : Type 0
Firsts = Option (Place × Rule)

pub broad_more : (names : Names) (o told : Firsts) (items : List Item) (i : ℕ) (x : Item) (all n : ℕ) → i < length items → x ≡ get_or items i x
    → ((rest : List LItem) → noted o (broad_breaks all (located_item names x ∷ rest)) ≡ (if nat_lt breadth_limit n then told else noted told (broad_breaks n rest)))
    → noted o (broad_breaks all (map (located_item names) (drop i items))) ≡ (if nat_lt breadth_limit n then told else noted told (broad_breaks n (map (located_item names) (drop (i + 1) items))))
broad_more names o told items i x all n h e k =
    ap (λ row. noted o (broad_breaks all (map (located_item names) row))) (drop_to_item items i x h e) ∙ k (map (located_item names) (drop (i + 1) items))

pub broad_end : (names : Names) (o : Firsts) (items : List Item) (i all : ℕ) → length items ≤ i → noted o (broad_breaks all (map (located_item names) (drop i items))) ≡ o
broad_end names o items i all h = ap (λ row. noted o (broad_breaks all (map (located_item names) row))) (drop_all i items h)
