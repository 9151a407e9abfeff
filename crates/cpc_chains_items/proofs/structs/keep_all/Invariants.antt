use Rattle.std.proofs.Common.{◌≡◌, ◌++◌, map, take}
use Rattle.cpc_tree.specs.Erase.{Names, Table, field_of}
use Rattle.cpc_tree.specs.Syntax.{Program}
use Rattle.cpc_convert_routines.specs.Routines.{Routine, locals_of}
use Rattle.cpc_chains_lines.specs.Around.{Stands, IsNode}
use Rattle.cpc_chains_items.proofs.structs.keep_all.Given as goal

-- what the leader keeps so far
abbrev pub invariant-loop-number : goal.invariant-loop-number
invariant-loop-number l = (source : Table) (from to : Names) (p : Program) (r : Routine) → Stands source from to p r l.around → IsNode l.around l.leader → map (field_of to) l.fields.items ≡ map (field_of to) l.initial.fields.items ++ locals_of r (take l.number-index l.number-items)
