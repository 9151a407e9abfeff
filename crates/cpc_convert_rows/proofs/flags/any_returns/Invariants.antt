use Rattle.std.proofs.Common.{◌≡◌, drop}
use Rattle.cpc_convert_routines.specs.Taken.{any_node, is_result}
use Rattle.cpc_convert_routines.specs.Routines.{Routine}
use Rattle.cpc_convert_rows.specs.Steps.{IsStepped}
use Rattle.cpc_convert_rows.proofs.flags.any_returns.Given as goal

-- none of the nodes so far is so
abbrev pub invariant-loop-node : goal.invariant-loop-node
invariant-loop-node l = (r : Routine) → IsStepped r l.stepped → any_node r (λ node. is_result node.stood) (drop l.node-index l.nodes) ≡ any_node r (λ node. is_result node.stood) l.nodes
