-- Whether items have a function to begin with, one by one.
use Rattle.std.proofs.Common.{◌≡◌, ℕ, ◌+◌, ◌<◌, Bool, true, false, List, [], ◌∷◌, length, get_or, drop, map, refl, sym, ap, ◌∙◌}
use Rattle.std.specs.Prelude.{if◌then◌else◌}
use Rattle.cpc_base.proofs.Lists.{drop_to_item}
use Rattle.cpc_tree.specs.declared.program.Item.{Item}
use Rattle.cpc_tree.specs.Located.{LItem, LStruct, LGlobal, LPrototype, LFunctionItem}
use Rattle.cpc_tree.specs.Erase.{Names}
use Rattle.cpc_tree.specs.Locate.{located_item}
use Rattle.cpc_check_rules.specs.Rules.{is_main, has_main}

chosen : (b : Bool) (c : Bool) → (if b then true else false) ≡ false → (if b then true else c) ≡ c
chosen true c e = absurd cc
chosen false c e = refl

main_cons : (x : LItem) (xs : List LItem) → has_main (x ∷ []) ≡ false → has_main (x ∷ xs) ≡ has_main xs
main_cons (LStruct tag fields) xs e = refl
main_cons (LGlobal x t start) xs e = refl
main_cons (LPrototype q mode x t ps) xs e = refl
main_cons (LFunctionItem f) xs e = chosen (is_main f) (has_main xs) e

-- this item is none, so those behind it decide
pub main_more : (names : Names) (items : List Item) (i : ℕ) (x : Item) (t : Bool) → i < length items → x ≡ get_or items i x → t ≡ has_main (located_item names x ∷ []) → t ≡ false
    → has_main (map (located_item names) (drop i items)) ≡ has_main (map (located_item names) items)
    → has_main (map (located_item names) (drop (i + 1) items)) ≡ has_main (map (located_item names) items)
main_more names items i x t h e k f j =
    sym (main_cons (located_item names x) (map (located_item names) (drop (i + 1) items)) (sym k ∙ f))
    ∙ (ap (λ row. has_main (map (located_item names) row)) (sym (drop_to_item items i x h e)) ∙ j)
