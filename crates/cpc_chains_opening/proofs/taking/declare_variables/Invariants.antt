use Rattle.std.proofs.Common.{◌≡◌, map, drop, All}
use Rattle.cpc_tree.specs.Erase.{Names, Table}
use Rattle.cpc_tree.specs.Syntax.{Program}
use Rattle.cpc_convert_routines.specs.Routines.{Routine}
use Rattle.cpc_chains_lines.specs.Written.{written, puts}
use Rattle.cpc_chains_lines.specs.Puts.{declares}
use Rattle.cpc_chains_lines.specs.Around.{Stands, IsVariable}
use Rattle.cpc_chains_opening.proofs.taking.declare_variables.Given as goal

-- with the variables that are left, all are declared
abbrev pub invariant-loop-number : goal.invariant-loop-number
invariant-loop-number l = (source : Table) (from to : Names) (p : Program) (r : Routine) → Stands source from to p r l.around → All (IsVariable l.around) l.numbers
    → puts (written to l.out) (map (declares r) (drop l.number-index l.numbers)) ≡ puts (written to l.initial.out) (map (declares r) l.numbers)
