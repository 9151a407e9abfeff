use Rattle.std.proofs.Common.{◌≡◌, ◌++◌, drop}
use Rattle.cpc_tree.specs.Erase.{Names, exprs_of}
use Rattle.cpc_check_rules.specs.Apart.{AreApart}
use Rattle.cpc_forms_code.specs.Seen.{AreNamed}
use Rattle.cpc_lift_laws.specs.Used.{used_among}
use Rattle.cpc_lift.specs.Scoped.{scope_at}
use Rattle.cpc_lift.proofs.names.+used.Given as goal

-- with what is left, the variables of all of the row are there
abbrev pub invariant-add_all_used-loop-e : goal.invariant-add_all_used-loop-e
invariant-add_all_used-loop-e l = (names : Names) → AreApart names → AreNamed names l.at.variables.now
    → l.found.items ++ used_among (scope_at names l.at) (exprs_of names (drop l.e-index l.row)) ≡ l.initial.found.items ++ used_among (scope_at names l.at) (exprs_of names l.row)
