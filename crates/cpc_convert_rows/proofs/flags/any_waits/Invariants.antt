use Rattle.std.proofs.Common.{◌≡◌, drop}
use Rattle.cpc_convert_routines.specs.Taken.{any_node}
use Rattle.cpc_chains_event.specs.Pieces.{is_wait}
use Rattle.cpc_convert_routines.specs.Routines.{Routine}
use Rattle.cpc_convert_rows.specs.Steps.{IsStepped}
use Rattle.cpc_convert_rows.proofs.flags.any_waits.Given as goal

-- none of the nodes so far is so
abbrev pub invariant-loop-node : goal.invariant-loop-node
invariant-loop-node l = (r : Routine) → IsStepped r l.stepped → any_node r (λ node. is_wait node.manner node.stood) (drop l.node-index l.nodes) ≡ any_node r (λ node. is_wait node.manner node.stood) l.nodes
