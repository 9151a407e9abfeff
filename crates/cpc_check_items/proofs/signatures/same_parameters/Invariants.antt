use Rattle.std.proofs.Common.{◌≡◌, drop}
use Rattle.cpc_tree.specs.Erase.{Names}
use Rattle.cpc_check_rules.specs.Apart.{AreApart}
use Rattle.cpc_check_rules.specs.ItemRules as R
use Rattle.cpc_check_items.specs.Signatures.{types_of}
use Rattle.cpc_check_items.proofs.signatures.same_parameters.Given as goal

-- the parameters that are left decide
abbrev pub invariant-loop-i : goal.invariant-loop-i
invariant-loop-i l = (names : Names) → AreApart names → R.same_list (types_of names l.list) (types_of names l.others) ≡ R.same_list (types_of names (drop l.i l.list)) (types_of names (drop l.i l.others))
