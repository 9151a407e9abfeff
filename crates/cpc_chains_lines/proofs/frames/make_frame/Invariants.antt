use Rattle.std.proofs.Common.{◌≡◌, map, drop, All}
use Rattle.cpc_tree.specs.Erase.{Names, Table}
use Rattle.cpc_tree.specs.Syntax.{Program}
use Rattle.cpc_convert_routines.specs.Routines.{Routine}
use Rattle.cpc_chains_lines.specs.Written.{written, puts}
use Rattle.cpc_chains_lines.specs.Puts.{saves}
use Rattle.cpc_chains_lines.specs.Around.{Stands, IsVariable}
use Rattle.cpc_chains_lines.proofs.frames.make_frame.Given as goal

-- with the variables that are left, all are saved
abbrev pub invariant-loop-number : goal.invariant-loop-number
invariant-loop-number l = (source : Table) (from to : Names) (p : Program) (r : Routine) → Stands source from to p r l.around → All (IsVariable l.around) l.kept
    → puts (written to l.out) (map (saves r (to l.pointer) (to l.tag)) (drop l.number-index l.kept)) ≡ puts (written to l.initial.out) (map (saves r (to l.pointer) (to l.tag)) l.kept)
