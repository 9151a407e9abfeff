use Rattle.std.proofs.Common.{◌≡◌, ◌++◌, map, take}
use Rattle.cpc_tree.specs.Erase.{Names, Table}
use Rattle.cpc_tree.specs.Syntax.{Program}
use Rattle.cpc_convert_common.specs.Converted.{prototype}
use Rattle.cpc_convert_routines.specs.Routines.{Routine}
use Rattle.cpc_chains_event.specs.Pieces.{leader_function}
use Rattle.cpc_chains_lines.specs.Around.{Stands}
use Rattle.cpc_chains_items.specs.Listed.{listed}
use Rattle.cpc_chains_items.proofs.items.Items.prototypes.Given as goal

-- the prototypes so far
abbrev pub invariant-loop-leader : goal.invariant-loop-leader
invariant-loop-leader l = (source : Table) (from to : Names) (p : Program) (r : Routine) → Stands source from to p r l.around
    → listed to l.self ≡ listed to l.initial.self ++ map (λ n. prototype (leader_function p r n)) (take l.leader-index l.leader-items)
