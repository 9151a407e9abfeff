use Rattle.std.proofs.Common.{◌≡◌, drop}
use Rattle.cpc_tree.specs.Erase.{Names}
use Rattle.cpc_tree.specs.Typing.{same_types, tys_of}
use Rattle.cpc_check_rules.specs.Apart.{AreApart}
use Rattle.cpc_native_plans.specs.Rows.{row_types, parameter_list}
use Rattle.cpc_native_plans.proofs.calls.same_row.Given as goal

-- the types that are left decide
abbrev pub invariant-loop-i : goal.invariant-loop-i
invariant-loop-i l = (names : Names) → AreApart names
    → same_types (tys_of (row_types names l.row)) (tys_of (parameter_list names l.parameters)) ≡ same_types (tys_of (drop l.i (row_types names l.row))) (tys_of (parameter_list names (drop l.i l.parameters)))
