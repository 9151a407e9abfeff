use Rattle.std.proofs.Common.{◌≡◌, map}
use Rattle.cpc_tree.specs.Erase.{Names, Table, field_of}
use Rattle.cpc_tree.specs.Registers.{variables}
use Rattle.cpc_tree.specs.Syntax.{Program}
use Rattle.cpc_convert_routines.specs.Routines.{Routine, passed_from}
use Rattle.cpc_chains_lines.specs.Around.{Stands}
use Rattle.cpc_chains_items.proofs.passing.passed.Given as goal

-- the parameters so far
abbrev pub invariant-loop-number : goal.invariant-loop-number
invariant-loop-number l = (source : Table) (from to : Names) (p : Program) (r : Routine) → Stands source from to p r l.around → map (field_of to) l.fields.items ≡ passed_from 0 l.number (variables r.function)
