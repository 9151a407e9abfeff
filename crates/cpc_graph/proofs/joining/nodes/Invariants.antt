use Rattle.std.proofs.Common.{◌≡◌, ◌++◌, List, drop, length, map}
use Rattle.cpc_tree.specs.Erase.{Names}
use Rattle.cpc_forms_code.specs.declared.boxed.Variable.{Variable}
use Rattle.cpc_forms_code.specs.Points.{point_seen}
use Rattle.cpc_forms_code.specs.Graphs.{node_seen}
use Rattle.cpc_graph.specs.Joined.{joined}
use Rattle.cpc_graph.proofs.joining.nodes.Given as goal

-- with what is left, there are all nodes
abbrev pub invariant-loop-i : goal.invariant-loop-i
invariant-loop-i l = (names : Names) (vs : List Variable) → length l.points ≡ length l.ways
    → map (node_seen names vs) l.nodes.items ++ joined l.i (map (point_seen names vs) (drop l.i l.points)) (drop l.i l.ways) ≡ joined 0 (map (point_seen names vs) l.points) l.ways
