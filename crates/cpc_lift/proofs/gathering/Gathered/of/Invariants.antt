use Rattle.std.proofs.Common.{◌≡◌, ◌++◌, drop, map}
use Rattle.cpc_tree.specs.Erase.{Names}
use Rattle.cpc_check_rules.specs.Apart.{AreApart}
use Rattle.cpc_forms_code.specs.Seen.{AreNamed}
use Rattle.cpc_forms_code.specs.Graphs.{node_seen}
use Rattle.cpc_forms_code.specs.Splits.{places_of}
use Rattle.cpc_lift_closures.specs.Rows.{links_of}
use Rattle.cpc_lift.specs.Gathered.{ways_along, uses_along}
use Rattle.cpc_lift.proofs.gathering.Gathered.of.Given as goal

-- with those of the nodes that are left, all ways and uses are there
abbrev pub invariant-loop-i : goal.invariant-loop-i
invariant-loop-i l = record {
  ways : (names : Names) → links_of l.all.ways.items ++ ways_along (places_of l.owners) (map (node_seen names l.variables) (drop l.i l.nodes)) (places_of (drop l.i l.owners))
      ≡ ways_along (places_of l.owners) (map (node_seen names l.variables) l.nodes) (places_of l.owners);
  uses : (names : Names) → AreApart names → AreNamed names l.variables → links_of l.all.uses.items ++ uses_along l.boxes (map (node_seen names l.variables) (drop l.i l.nodes)) (places_of (drop l.i l.owners))
      ≡ uses_along l.boxes (map (node_seen names l.variables) l.nodes) (places_of l.owners);
}
