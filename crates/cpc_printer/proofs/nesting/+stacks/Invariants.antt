use Rattle.std.proofs.Common.{◌≡◌, drop, max, false}
use Rattle.cpc_tree.specs.Erase.{Names, list_of}
use Rattle.cpc_tree.specs.StmtPrint.{block_depth}
use Rattle.cpc_printer.specs.Depths.{capped}
use Rattle.cpc_printer.proofs.nesting.+stacks.Given as goal

-- the depth of those that were counted and of those that are left
abbrev pub invariant-block_depth-loop-s : goal.invariant-block_depth-loop-s
invariant-block_depth-loop-s l = (names : Names) → max l.depth (capped (block_depth false (list_of names (drop l.s-index l.inner)))) ≡ capped (block_depth false (list_of names l.inner))
