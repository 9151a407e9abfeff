use Rattle.std.proofs.Common.{◌≡◌, ◌++◌, drop}
use Rattle.cpc_tree.specs.Erase.{Names}
use Rattle.cpc_eval_variables.specs.Typed.{types_of}
use Rattle.cpc_eval_variables.specs.Kept.{kept_types, kept_of}
use Rattle.cpc_eval_variables.proofs.registers.kept.Given as goal

-- with the variables that are left, all are there
abbrev pub invariant-loop-i : goal.invariant-loop-i
invariant-loop-i l = (names : Names) → kept_of names l.kept.items ++ kept_types l.addressed l.i (types_of names (drop l.i l.types)) ≡ kept_types l.addressed 0 (types_of names l.types)
