use Rattle.std.proofs.Common.{◌≡◌, List, map, take}
use Rattle.cpc_tree.specs.Erase.{Names}
use Rattle.cpc_forms_code.specs.declared.boxed.Variable.{Variable}
use Rattle.cpc_forms_code.specs.Graphs.{node_seen}
use Rattle.cpc_split.specs.Steps.{step_of}
use Rattle.cpc_split.proofs.splitting.steps.Given as goal

abbrev pub invariant-loop-node : goal.invariant-loop-node
invariant-loop-node l = (names : Names) (vs : List Variable) → l.steps.items ≡ map step_of (map (node_seen names vs) (take l.node-index l.nodes))
