use Rattle.std.proofs.Common.{◌≡◌, drop, max, false}
use Rattle.cpc_tree.specs.Erase.{Names, exprs_of}
use Rattle.cpc_tree.specs.ExprPrint.{args_depth}
use Rattle.cpc_printer.specs.Depths.{capped}
use Rattle.cpc_printer.proofs.depth.+depths.Given as goal

-- the depth of those that were counted and of those that are left
abbrev pub invariant-arguments_depth-loop-e : goal.invariant-arguments_depth-loop-e
invariant-arguments_depth-loop-e l = (names : Names) → max l.depth (capped (args_depth false (exprs_of names (drop l.e-index l.list)))) ≡ capped (args_depth false (exprs_of names l.list))
