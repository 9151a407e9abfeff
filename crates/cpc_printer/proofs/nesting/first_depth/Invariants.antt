use Rattle.std.proofs.Common.{◌≡◌, drop, max, false}
use Rattle.cpc_tree.specs.Erase.{Names, list_of}
use Rattle.cpc_tree.specs.StmtPrint.{first_depth}
use Rattle.cpc_printer.specs.Depths.{capped}
use Rattle.cpc_printer.proofs.nesting.first_depth.Given as goal

-- the depth of those that were counted and of those that are left
abbrev pub invariant-loop-s : goal.invariant-loop-s
invariant-loop-s l = (names : Names) → max l.depth (capped (first_depth false (list_of names (drop l.s-index l.first)))) ≡ capped (first_depth false (list_of names l.first))
