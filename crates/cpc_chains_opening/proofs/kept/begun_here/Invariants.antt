use Rattle.std.proofs.Common.{◌≡◌, ◌++◌, ◌&&◌, not, All, drop}
use Rattle.cpc_tree.specs.Erase.{Names, Table}
use Rattle.cpc_tree.specs.Syntax.{Program}
use Rattle.cpc_convert_routines.specs.Routines.{Routine, is_parameter, is_plain, chosen}
use Rattle.cpc_chains_lines.specs.Around.{Stands, IsVariable}
use Rattle.cpc_chains_opening.proofs.kept.begun_here.Given as goal

-- with those that are left, all are there
abbrev pub invariant-loop-number : goal.invariant-loop-number
invariant-loop-number l = (source : Table) (from to : Names) (p : Program) (r : Routine) → Stands source from to p r l.fn.around → All (IsVariable l.fn.around) l.kept
    → l.all.items ++ chosen (λ k. not (is_parameter r.function k) && is_plain r k) (drop l.number-index l.kept) ≡ chosen (λ k. not (is_parameter r.function k) && is_plain r k) l.kept
