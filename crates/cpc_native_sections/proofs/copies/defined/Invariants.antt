use Rattle.std.proofs.Common.{◌≡◌, drop, map}
use Rattle.cpc_tree.specs.Erase.{Names, item_of}
use Rattle.cpc_check_rules.specs.Apart.{AreApart}
use Rattle.cpc_tree.specs.Typing.{function_named}
use Rattle.cpc_native_sections.proofs.copies.defined.Given as goal

-- what all items define is what those that are left define
abbrev pub invariant-loop-item : goal.invariant-loop-item
invariant-loop-item l = (names : Names) → AreApart names → function_named (map (item_of names) l.items) (names l.name)
    ≡ function_named (map (item_of names) (drop l.item-index l.items)) (names l.name)
