use Rattle.std.proofs.Common.{◌≡◌, ◌++◌, map, drop}
use Rattle.cpc_tree.specs.Erase.{Names, item_of}
use Rattle.cpc_check_rules.specs.Apart.{AreApart}
use Rattle.cpc_eval_index.specs.Offsets.{item_offsets}
use Rattle.cpc_eval_index.proofs.offsets.Offsets.of.Given as goal

-- with the rows of the items that are left, all are there
abbrev pub invariant-loop-item : goal.invariant-loop-item
invariant-loop-item l = (names : Names) → AreApart names
    → map (λ row. row.items) l.rows.items ++ map (item_offsets names (map (item_of names) l.list)) (drop l.item-index l.list) ≡ map (item_offsets names (map (item_of names) l.list)) l.list
