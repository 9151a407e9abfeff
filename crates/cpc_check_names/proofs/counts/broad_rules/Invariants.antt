use Rattle.std.proofs.Common.{◌≡◌, ◌≤◌, drop, map}
use Rattle.cpc_tree.specs.Erase.{Names}
use Rattle.cpc_tree.specs.Locate.{located_item}
use Rattle.cpc_check_rules.specs.Rules.{breadth_limit, broad_breaks}
use Rattle.cpc_check_rules.specs.Noted.{noted, first_of}
use Rattle.cpc_check_names.proofs.counts.broad_rules.Given as goal

-- the limit is not yet exceeded, and with what is left all items are noted
abbrev pub invariant-loop-item : goal.invariant-loop-item
invariant-loop-item l = (l.all ≤ breadth_limit)
    × ((names : Names) → noted (first_of l.first) (broad_breaks l.all (map (located_item names) (drop l.item-index l.items))) ≡ noted (first_of l.initial.first) (broad_breaks 0 (map (located_item names) l.items)))
