use Rattle.std.proofs.Common.{◌≡◌, drop}
use Rattle.cpc_tree.specs.Erase.{Names, Table}
use Rattle.cpc_tree.specs.Syntax.{Program}
use Rattle.cpc_convert_routines.specs.Routines.{Routine}
use Rattle.cpc_chains_lines.specs.Written.{written, puts}
use Rattle.cpc_chains_event.specs.Pieces.{boxing_lines}
use Rattle.cpc_chains_lines.specs.Known.{boxes_among}
use Rattle.cpc_chains_lines.specs.Around.{Stands}
use Rattle.cpc_chains_opening.proofs.taking.box_variables.Given as goal

-- with those that are left, all are made
abbrev pub invariant-loop-number : goal.invariant-loop-number
invariant-loop-number l = (source : Table) (from to : Names) (p : Program) (r : Routine) → Stands source from to p r l.around
    → puts (written to l.out) (boxing_lines r (boxes_among l.number (drop l.number l.variables))) ≡ puts (written to l.initial.out) (boxing_lines r (boxes_among 0 l.variables))
