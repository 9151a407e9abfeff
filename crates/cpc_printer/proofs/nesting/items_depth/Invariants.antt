use Rattle.std.proofs.Common.{◌≡◌, drop, map, max, false}
use Rattle.cpc_tree.specs.Erase.{Names, item_of}
use Rattle.cpc_tree.specs.ItemPrint.{program_depth}
use Rattle.cpc_printer.specs.Depths.{capped}
use Rattle.cpc_printer.proofs.nesting.items_depth.Given as goal

-- the depth of those that were counted and of those that are left
abbrev pub invariant-loop-item : goal.invariant-loop-item
invariant-loop-item l = (names : Names) → max l.depth (capped (program_depth false (map (item_of names) (drop l.item-index l.list)))) ≡ capped (program_depth false (map (item_of names) l.list))
