use Rattle.std.proofs.Common.{◌≡◌, drop, max, false}
use Rattle.cpc_tree.specs.Erase.{Names}
use Rattle.cpc_tree.specs.TypePrint.{types_depth}
use Rattle.cpc_printer.specs.Types.{listed_types}
use Rattle.cpc_printer.specs.Depths.{capped}
use Rattle.cpc_printer.proofs.depth.+nesting.Given as goal

-- the depth of those that were counted and of those that are left
abbrev pub invariant-types_depth-loop-of : goal.invariant-types_depth-loop-of
invariant-types_depth-loop-of l = (names : Names) → max l.depth (capped (types_depth false (listed_types names (drop l.of-index l.list)))) ≡ capped (types_depth false (listed_types names l.list))
