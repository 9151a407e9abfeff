use Rattle.std.proofs.Common.{◌≡◌, ◌++◌, map, take}
use Rattle.cpc_tree.specs.Erase.{Names, Table}
use Rattle.cpc_tree.specs.Syntax.{Program}
use Rattle.cpc_convert_routines.specs.Routines.{Routine}
use Rattle.cpc_chains_event.specs.Frames.{box_of}
use Rattle.cpc_chains_lines.specs.Known.{boxes_among}
use Rattle.cpc_chains_lines.specs.Around.{Stands}
use Rattle.cpc_chains_items.specs.Listed.{listed}
use Rattle.cpc_chains_items.proofs.items.Items.box_structs.Given as goal

-- the structs so far
abbrev pub invariant-loop-number : goal.invariant-loop-number
invariant-loop-number l = (source : Table) (from to : Names) (p : Program) (r : Routine) → Stands source from to p r l.around
    → listed to l.self ≡ listed to l.initial.self ++ map (box_of r) (boxes_among 0 (take l.number l.variables))
