use Rattle.std.proofs.Common.{◌≡◌, ◌++◌, map, drop}
use Rattle.cpc_tree.specs.Erase.{Names, Table}
use Rattle.cpc_tree.specs.Syntax.{Program}
use Rattle.cpc_convert_common.specs.Converted.{function_item}
use Rattle.cpc_chains_event.specs.Pieces.{leader_function}
use Rattle.cpc_convert_routines.specs.Routines.{Routine}
use Rattle.cpc_chains_items.specs.Listed.{listed}
use Rattle.cpc_chains_pieces.specs.Around.{Stands}
use Rattle.cpc_chains_pieces.specs.Whole.{IsWhole}
use Rattle.cpc_chains_code.proofs.pieces.add_leaders.Given as goal

-- with those that are left, all are there
abbrev pub invariant-loop-leader : goal.invariant-loop-leader
invariant-loop-leader l = (source : Table) (from to : Names) (p : Program) (r : Routine) → Stands source from to p r l.fn.around → IsWhole from p r l.fn.around l.stepped
    → listed to l.items ++ map function_item (map (leader_function p r) (drop l.leader-index l.stepped.split.now.leaders.items)) ≡ listed to l.initial.items ++ map function_item (map (leader_function p r) r.split.leaders)
