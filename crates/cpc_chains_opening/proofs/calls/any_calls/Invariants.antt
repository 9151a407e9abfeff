use Rattle.std.proofs.Common.{◌≡◌, drop}
use Rattle.cpc_tree.specs.Erase.{Names, Table}
use Rattle.cpc_tree.specs.Syntax.{Program}
use Rattle.cpc_convert_routines.specs.Taken.{any_node}
use Rattle.cpc_chains_event.specs.Pieces.{is_entry}
use Rattle.cpc_convert_routines.specs.Routines.{Routine}
use Rattle.cpc_chains_lines.specs.Around.{Stands}
use Rattle.cpc_chains_opening.specs.Whole.{AreEntries}
use Rattle.cpc_chains_opening.proofs.calls.any_calls.Given as goal

-- none of the nodes so far is so
abbrev pub invariant-loop-number : goal.invariant-loop-number
invariant-loop-number l = (source : Table) (from to : Names) (p : Program) (r : Routine) → Stands source from to p r l.fn.around → AreEntries from p l.fn.around
    → any_node r (λ node. is_entry p node.stood) (drop l.number-index l.nodes) ≡ any_node r (λ node. is_entry p node.stood) l.nodes
