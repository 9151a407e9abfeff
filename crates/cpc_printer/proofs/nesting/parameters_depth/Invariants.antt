use Rattle.std.proofs.Common.{◌≡◌, drop, map, max, false}
use Rattle.cpc_tree.specs.Erase.{Names, parameter_of}
use Rattle.cpc_tree.specs.TypePrint.{params_depth}
use Rattle.cpc_printer.specs.Depths.{capped}
use Rattle.cpc_printer.proofs.nesting.parameters_depth.Given as goal

-- the depth of those that were counted and of those that are left
abbrev pub invariant-loop-parameter : goal.invariant-loop-parameter
invariant-loop-parameter l = (names : Names) → max l.depth (capped (params_depth false (map (parameter_of names) (drop l.parameter-index l.list)))) ≡ capped (params_depth false (map (parameter_of names) l.list))
