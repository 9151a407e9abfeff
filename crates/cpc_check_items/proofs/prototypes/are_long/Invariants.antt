use Rattle.std.proofs.Common.{◌≡◌, drop}
use Rattle.cpc_tree.specs.Erase.{Names}
use Rattle.cpc_check_rules.specs.ItemRules as R
use Rattle.cpc_check_items.specs.Signatures.{types_of}
use Rattle.cpc_check_items.proofs.prototypes.are_long.Given as goal

-- the parameters that are left decide
abbrev pub invariant-loop-parameter : goal.invariant-loop-parameter
invariant-loop-parameter l = (names : Names) → R.all_long (types_of names l.parameters) ≡ R.all_long (types_of names (drop l.parameter-index l.parameters))
