use Rattle.std.proofs.Common.{◌≡◌, ◌++◌, drop, map}
use Rattle.cpc_tree.specs.Erase.{Names}
use Rattle.cpc_forms_code.specs.Graphs.{node_seen}
use Rattle.cpc_convert_routines.specs.Routines.{Routine}
use Rattle.cpc_convert_rows.specs.Steps.{IsOf, step_of}
use Rattle.cpc_convert_rows.proofs.stepped.steps.Given as goal

-- with the steps that are left, all are there
abbrev pub invariant-loop-i : goal.invariant-loop-i
invariant-loop-i l = (names : Names) (r : Routine) → IsOf names l.split r
    → l.all.items ++ map (step_of r) (map (node_seen names l.split.graph.now.boxed.now.variables.items) (drop l.i l.split.graph.now.nodes.items)) ≡ map (step_of r) (map (node_seen names l.split.graph.now.boxed.now.variables.items) l.split.graph.now.nodes.items)
