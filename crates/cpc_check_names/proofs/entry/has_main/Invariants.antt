use Rattle.std.proofs.Common.{◌≡◌, drop, map}
use Rattle.cpc_tree.specs.Erase.{in_table}
use Rattle.cpc_tree.specs.Locate.{located_item}
use Rattle.cpc_check_rules.specs.Rules.{has_main}
use Rattle.cpc_check_names.proofs.entry.has_main.Given as goal

-- what is left decides
abbrev pub invariant-loop-item : goal.invariant-loop-item
invariant-loop-item l = has_main (map (located_item (in_table l.names)) (drop l.item-index l.items)) ≡ has_main (map (located_item (in_table l.names)) l.items)
